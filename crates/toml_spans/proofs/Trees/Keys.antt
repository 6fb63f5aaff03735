-- Keys are read part by part as `toml_parser` reads them, and each part stands where its piece is.
use Rattle.std.proofs.Common.{◌≡◌, ℕ, zero, suc, ◌<◌, ◌==◌, List, [], ◌∷◌, ◌++◌, length, drop, Some, refl, ap, arith}
use Rattle.std.proofs.lemmas.List.{map-append}
use Rattle.std.specs.List.{AllByRecursion}
use Rattle.toml_parser.specs.Lexical.{equals, first, skip_ws}
use Rattle.toml_parser.specs.Strings.{Key, key, key_after, simple_key}
use Rattle.toml.specs.Parse.{after_byte, key_equals}
use Rattle.toml_spans.specs.Entry.{Piece, piece}
use Rattle.toml_spans.specs.Key.{key_of, Part, Parts, parts, parts_after, texts_of}
use Rattle.toml_spans.specs.Value.{parts_equals}
use Rattle.toml_spans.proofs.Trees.Alike.{Alike, alike_first, alike_if, alike_same, alike_same_map, alike_then, either, neither}
use Rattle.toml_spans.proofs.Alone.{part_alone}
use Rattle.toml_spans.proofs.Elements.{all_joined}
use Rattle.toml_spans.proofs.Trees.Rests.{byte_shorter, other_byte, rest_byte, rest_dropped, rest_itself, rest_on, rest_part, rest_within, rest_ws}
use Rattle.toml_spans.proofs.Trees.Stands.{IsRest, KeyStands, NoEquals}
use Rattle.toml_spans.proofs.Trees.Tables.{PartStands}

-- how parts read, with one more
pub texts_more : (path : List Part) (part : Part) → texts_of (path ++ part ∷ []) ≡ texts_of path ++ part.0 ∷ []
texts_more path part = map-append (λ (p : Part). p.0) path (part ∷ [])

-- what follows a key follows in other words
pub key_follows : {text k : List ℕ} {p : Piece} {F G : List ℕ → Type 0} → KeyStands text k p F → ((behind : List ℕ) → F behind → G behind) → KeyStands text k p G
key_follows stands on = record { front = stands.front; behind = stands.behind; at = stands.at; reads = stands.reads; follows = on stands.behind stands.follows }

module _ (whole : List ℕ) where
  -- what is read of a key, whose last part this follows
  pub record ReadParts (Follows : List ℕ → List ℕ → Type 0) (start : List ℕ) (r : Parts × List ℕ) (s : Key × List ℕ) : Type 0 where
    pub key_same : s.0 ≡ key_of r.0
    pub rest_same : s.1 ≡ r.1
    pub before : AllByRecursion (PartStands whole) r.0.0
    pub last : KeyStands whole r.0.1.0 r.0.1.1 (Follows r.1)
    pub left : IsRest start r.1

  -- and of more after it
  pub read_on : {F G : List ℕ → List ℕ → Type 0} {text start rest : List ℕ} {r : Parts × List ℕ} {s : Key × List ℕ} → IsRest text start → ReadParts F start r s
      → IsRest r.1 rest → ((behind : List ℕ) → F r.1 behind → G rest behind) → ReadParts G text (r.0, rest) (s.0, rest)
  read_on from read left on = record {
    key_same = read.key_same;
    rest_same = refl;
    before = read.before;
    last = key_follows read.last on;
    left = rest_on (rest_on from read.left) left;
  }

  -- the key ends here
  abbrev pub EndsAt : List ℕ → List ℕ → Type 0
  EndsAt rest behind = skip_ws behind ≡ rest

  -- or `=` follows
  abbrev pub HasEquals : List ℕ → List ℕ → Type 0
  HasEquals left behind = (rest : List ℕ) × (after_byte equals (skip_ws behind) ≡ Some rest) × (left ≡ skip_ws rest)

  -- a part stands where it is read
  part_stands : (text rest k : List ℕ) (F : List ℕ → Type 0) → IsRest whole text → simple_key text ≡ Some (k, rest) → F rest → KeyStands whole k (piece text rest) F
  part_stands text rest k F from is follows =
      let (front, cut, reads) = part_alone text rest k is in
      record {
        front = front;
        behind = rest;
        at = record { from = rw cut at from; begins = ap length cut; ends = refl };
        reads = reads;
        follows = follows;
      }

  -- the rest of a key, so many parts at most, after those that were read
  parts_read : (start : List ℕ) → IsRest whole start → (n : ℕ) (path : List Part) (text : List ℕ) → IsRest start text → AllByRecursion (PartStands whole) path
      → Alike (ReadParts EndsAt start) (parts_after n path text) (key_after n (texts_of path) text)
  unfolding parts_after key_after
  parts_read start from zero path text on stand = neither refl refl
  parts_read start from (suc n) path text on stand =
      alike_same (simple_key text) _ _ (λ read is.
      let part : Part = (read.0, piece text read.1) in
      let rest = skip_ws read.1 in
      let left : IsRest start rest = rest_on (rest_on on (rest_part text read.1 read.0 is)) (rest_ws read.1) in
      alike_if (first rest == 46) _ _ _ _
      (λ dot. rw (← texts_more path part) (parts_read start from n (path ++ part ∷ []) (skip_ws (drop 1 rest)) (rest_on (rest_on left (rest_dropped 1 rest)) (rest_ws (drop 1 rest)))
      (all_joined (PartStands whole) path (part ∷ []) stand (part_stands text read.1 read.0 NoEquals (rest_on from on) is (other_byte (first rest) 46 61 dot refl), tt))))
      (λ _. either ((path, part), rest) ((texts_of path, read.0), rest) refl refl (record {
        key_same = refl;
        rest_same = refl;
        before = stand;
        last = part_stands text read.1 read.0 (λ behind. skip_ws behind ≡ rest) (rest_on from on) is refl;
        left = left;
      })))

  -- a key
  pub key_read : (text : List ℕ) → IsRest whole text → Alike (ReadParts EndsAt text) (parts text) (key text)
  key_read text from = parts_read text from 80 [] text (rest_itself text) tt

  -- what is read of a key and `=`
  abbrev pub ReadKey : List ℕ → Parts × List ℕ → Key × List ℕ → Type 0
  ReadKey text r s = ReadParts HasEquals text r s × (length r.1 < length text)

  -- a key and `=`
  pub equals_read : (text : List ℕ) → IsRest whole text → Alike (ReadKey text) (parts_equals text) (key_equals text)
  unfolding parts_equals key_equals
  equals_read text from =
      alike_then _ _ (key_read text from) (λ x y _ _ read. rw read.rest_same (alike_same_map (after_byte equals x.1) _ _ (λ rest is. (
        read_on (rest_itself text) read (rest_on (rest_byte equals x.1 rest is) (rest_ws rest)) (λ behind same. (rest, (rw (← same) at is), refl)),
        omega (arith, rest_within read.left, byte_shorter equals x.1 rest refl is, rest_within (rest_ws rest)),
      ))))

-- what follows a key and `=`
pub equals_left : (text : List ℕ) (k : Parts) (rest : List ℕ) → parts_equals text ≡ Some (k, rest) → IsRest text rest
equals_left text k rest is = (alike_first (equals_read text text (rest_itself text)) (k, rest) is).2.0.left
