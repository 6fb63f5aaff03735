-- What a text that is no version is refused for is never that memory ran out.
use Rattle.std.proofs.Common.{◌≡◌, ℕ, ◌+◌, ◌*◌, ◌-◌, Bool, true, false, List, [], ◌∷◌, Result, Ok, Err, IfErr, if◌then◌else◌, rules}
use Rattle.semver.specs.Parse.{◌>>=◌, Parts, digits_from, dot_of, is_memory, IsRefused, memory_error, scan, tail_build, tail_end, tail_pre, version_parts}
use Rattle.semver.specs.declared.error.Error.{Error}
use Rattle.semver.specs.declared.error.Position.{Position}
use Rattle.semver.specs.declared.error.Position.TheVariants as place
use Rattle.nextest_config.specs.declared.nextest_version.edition.Edition.{Edition}
use Rattle.nextest_config_check.specs.CommandLine.{check_of, IfComplaint}

-- an error, if any, is none of memory
pub record IsOfText {A : Type 0} (r : Result A Error) : Type 0 where
  pub of_text : IfErr r (λ e. is_memory e.kind ≡ false)

of_text-if : {A : Type 0} (b : Bool) (r s : Result A Error) → IsOfText r → IsOfText s → IsOfText (if b then r else s)
of_text-if true r s first second = first
of_text-if false r s first second = second

of_text-then : {A B : Type 0} (r : Result A Error) (f : A → Result B Error) → IsOfText r → ((x : A) → IsOfText (f x)) → IsOfText (r >>= f)
of_text-then (Ok x) f first next = next x
of_text-then (Err e) f first next = record { of_text = first.of_text }

ruleset of_text = (of_text-if, of_text-then)

of_text-digits_from : (pos : Position) (value len : ℕ) (text : List ℕ) → IsOfText (digits_from pos value len text)
unfolding digits_from
of_text-digits_from pos value len [] = search (rules, of_text)
of_text-digits_from pos value len (b ∷ rest) = search (rules, of_text, of_text-digits_from pos (value * 10 + (b - 48)) (len + 1) rest)

of_text-dot_of : (pos : Position) (text : List ℕ) → IsOfText (dot_of pos text)
of_text-dot_of pos [] = search (rules, of_text)
of_text-dot_of pos (b ∷ rest) = search (rules, of_text)

of_text-scan : (pos : Position) (acc seg : ℕ) (nondigit lead : Bool) (text : List ℕ) → IsOfText (scan pos acc seg nondigit lead text)
unfolding scan
of_text-scan pos acc seg nondigit lead [] = search (rules, of_text)
of_text-scan pos acc seg nondigit lead (b ∷ rest) =
    search (rules, of_text, λ (acc seg : ℕ) (nondigit lead : Bool). of_text-scan pos acc seg nondigit lead rest)

of_text-tail_end : (pos : Position) (major minor patch : ℕ) (pre build text : List ℕ) → IsOfText (tail_end pos major minor patch pre build text)
of_text-tail_end pos major minor patch pre build [] = search (rules, of_text)
of_text-tail_end pos major minor patch pre build (b ∷ rest) = search (rules, of_text)

of_text-tail_build : (pos : Position) (major minor patch : ℕ) (pre text : List ℕ) → IsOfText (tail_build pos major minor patch pre text)
of_text-tail_build pos major minor patch pre [] = search (rules, of_text)
of_text-tail_build pos major minor patch pre (b ∷ rest) = search (rules, of_text, of_text-scan place.Build 0 0 false false rest, of_text-tail_end)

of_text-tail_pre : (major minor patch : ℕ) (text : List ℕ) → IsOfText (tail_pre major minor patch text)
of_text-tail_pre major minor patch [] = search (rules, of_text)
of_text-tail_pre major minor patch (b ∷ rest) =
    search (rules, of_text, of_text-scan place.Pre 0 0 false false rest, of_text-tail_build, of_text-tail_build place.Patch major minor patch [] (b ∷ rest))

pub of_text-version_parts : (text : List ℕ) → IsOfText (version_parts text)
of_text-version_parts text = search (rules, of_text, of_text-digits_from, of_text-dot_of, of_text-tail_pre) depth 12

-- where memory ran out, the word isn't refused
pub no_complaint : {T : Type 0} (word : List ℕ) (overridden : Bool) (edition : Edition) (read : Result Parts Error) (parsed : Result T Error) → IsOfText read → IsRefused read parsed → parsed ≡ Err memory_error → IfComplaint (check_of word overridden edition read) (λ text. ⊥)
no_complaint word overridden edition (Ok current) parsed of_text refused memory = tt
no_complaint word overridden edition (Err e) parsed of_text refused memory = absurd (cc (of_text.of_text))
