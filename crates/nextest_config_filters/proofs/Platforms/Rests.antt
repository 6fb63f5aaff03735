-- Rests of a text, and their bytes.
use Rattle.std.proofs.Common.{◌≡◌, ℕ, ◌+◌, ◌<◌, ◌≤◌, List, [], ◌∷◌, length, refl, ap, ◌∙◌, inl, inr, arith}
use Rattle.std.proofs.lemmas.Bool.{cases_Bool}
use Rattle.nextest_config_filters.specs.Front.{begins_key, bytes_of, in_key, is_doubled, IsRest, opening}
use Rattle.nextest_config_filters.specs.Platform.Member.{behind_token}
use Rattle.nextest_config_filters.proofs.Fronts.{rest_behind, rest_fits, rest_within, run_in, without_first_rest}
use Rattle.nextest_config_filters.proofs.Ranges.{bytes_joined}

pub token_rest : (c : ℕ) (cs : List ℕ) → IsRest cs (behind_token c cs)
token_rest c cs = elim (cases_Bool (begins_key c)) [
  | inl key ↦ rw key (run_in in_key cs)
  | inr other ↦ elim (cases_Bool (is_doubled c cs)) [
    | inl doubled ↦ rw (other, doubled) (without_first_rest cs)
    | inr single ↦ rw (other, single) ([], refl)
  ]
]

-- ---- what comes behind one character at least

pub record IsBehind (cs left : List ℕ) : Type 0 where
  pub rest : IsRest cs left
  pub shorter : length left < length cs

pub behind_first : (c : ℕ) (cs rest : List ℕ) → IsRest cs rest → IsBehind (c ∷ cs) rest
behind_first c cs rest is =
    let fits = rest_fits cs rest is in
    record { rest = rest_behind c cs rest is; shorter = omega arith }

pub behind_within : (cs inner rest : List ℕ) → IsRest cs inner → IsBehind inner rest → IsBehind cs rest
behind_within cs inner rest is behind =
    let fits = rest_fits cs inner is in
    record { rest = rest_within cs inner rest is behind.rest; shorter = omega (arith, behind.shorter) }

pub behind_on : (cs inner rest : List ℕ) → IsBehind cs inner → IsRest inner rest → IsBehind cs rest
behind_on cs inner rest behind is =
    let fits = rest_fits inner rest is in
    record { rest = rest_within cs inner rest behind.rest is; shorter = omega (arith, behind.shorter) }

-- ---- bytes

one_byte : bytes_of (opening ∷ []) ≡ 1
unfolding lib.Utf8.encode
one_byte = refl

-- what stands from a parenthesis on has one byte more
pub opening_bytes : (cs : List ℕ) → bytes_of (opening ∷ cs) ≡ bytes_of cs + 1
opening_bytes cs = omega (arith, bytes_joined (opening ∷ []) cs, one_byte)

pub bytes_fit : (cs rest : List ℕ) → IsRest cs rest → bytes_of rest ≤ bytes_of cs
bytes_fit cs rest (front, whole) = omega (arith, ap bytes_of whole ∙ bytes_joined front rest)

-- so many bytes are those of a rest
pub record IsBytes (cs : List ℕ) (n : ℕ) : Type 0 where
  pub part : List ℕ
  pub rest : IsRest cs part
  pub size : n ≡ bytes_of part

pub bytes_within : (cs inner : List ℕ) (n : ℕ) → IsRest cs inner → IsBytes inner n → IsBytes cs n
bytes_within cs inner n is bytes =
    record { part = bytes.part; rest = rest_within cs inner bytes.part is bytes.rest; size = bytes.size }

pub bytes_at : (cs rest : List ℕ) → IsRest cs rest → IsBytes cs (bytes_of rest)
bytes_at cs rest is = record { part = rest; rest = is; size = refl }
