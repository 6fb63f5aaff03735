-- Strings of one line.
use Rattle.std.proofs.Common.{◌≡◌, ℕ, false, true, ◌==◌, List, [], drop, slice_index, Some, refl, rules}
use Rattle.toml_parser.specs.Strings.{body, one_line, quoted, special, starts_string}

-- two quotes are an empty string, whatever follows
pub empty_line : (text : List ℕ) → starts_string text ≡ true → slice_index text 1 ≡ slice_index text 0 → one_line text ≡ Some ([], drop 2 text)
unfolding one_line body special
empty_line text begins same = search rules

-- what isn't two quotes is no string of several lines
pub one_line_quoted : (text : List ℕ) → (slice_index text 1 == slice_index text 0) ≡ false → one_line text ≡ quoted text
unfolding quoted
one_line_quoted text other = rw other refl
