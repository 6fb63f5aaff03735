-- What is read of `cfg(..)` at a place, by what stands before it.
use Rattle.std.specs.Prelude.{ℕ, ◌==◌, ◌&&◌, ◌||◌, Bool, true, false, List, [], ◌∷◌, codes, nat_eq, Option, Some, None, if◌then◌else◌}
use Rattle.std.specs.Cmp.Lexicographic.{pointwise}
use Rattle.std.specs.Str.{skip_leading_whitespace as behind_spaces}
use Rattle.toml_spans.specs.Characters.{double_quote}
use Rattle.nextest_config_filters.specs.Front.{begins, begins_key, behind_run, bytes_of, closing, comma, equals_sign, in_key, in_run, is_doubled, number_sign, opening, run, without_first}
use Rattle.nextest_config_filters.specs.Platform.Key.{groups, key_flaw}
use Rattle.nextest_config_filters.specs.Platform.Reading.{closes, ends, fault_between, fault_up_to, member, opens, Reading, reports, separates, unjudged}
use Rattle.nextest_config_filters.specs.Text.{is_one_of}
use Rattle.nextest_config_filters.specs.declared.front.Run.TheVariants as runs
use Rattle.nextest_config_filters.specs.declared.platform.flaw.PlatformFlaw.{PlatformFlaw}
use Rattle.nextest_config_filters.specs.declared.platform.flaw.PlatformFlaw.TheVariants as flaws
use Rattle.nextest_config_filters.specs.declared.platform.reading.After.{After}
use Rattle.nextest_config_filters.specs.declared.platform.reading.After.TheVariants as after
use Rattle.nextest_config_filters.specs.declared.platform.reading.Level.{Level}

-- ---- what may stand behind what

abbrev pub takes_member : After → Bool
takes_member after.Member = false
takes_member before = true

abbrev pub takes_closing : After → Bool
takes_closing after.Nothing = false
takes_closing before = true

abbrev pub takes_end : After → Bool
takes_end after.Opening = false
takes_end before = true

abbrev pub takes_comma : After → Bool
takes_comma after.Comma = true
takes_comma after.Member = true
takes_comma before = false

-- ---- what may not

-- nothing is left
abbrev pub is_nothing : List ℕ → Bool
is_nothing [] = true
is_nothing (c ∷ cs) = false

-- the end: the last parenthesis, behind which nothing but spaces stands
abbrev pub is_end : ℕ → List ℕ → Bool
is_end c cs = c == closing && is_nothing (behind_spaces cs)

-- `r#` (114 is `r`)
abbrev pub is_raw : ℕ → List ℕ → Bool
is_raw c cs = c == 114 && begins number_sign cs

-- what comes behind the value that a quote before these characters begins
abbrev pub behind_value : List ℕ → Option (List ℕ)
behind_value cs =
    if is_nothing (behind_run (in_run runs.Value) cs) then None
    else Some (without_first (behind_run (in_run runs.Value) cs))

-- a value that isn't expected, or isn't closed
abbrev pub unexpected_value : Option (List ℕ) → List ℕ → Reading
unexpected_value None cs = reports (fault_up_to cs (without_first cs) flaws.ValueNotClosed)
unexpected_value (Some rest) cs = reports (fault_up_to cs rest flaws.Unexpected)

-- what comes behind a key, `&&`, `||` or another character
abbrev pub behind_token : ℕ → List ℕ → List ℕ
behind_token c cs =
    if begins_key c then behind_run in_key cs
    else if is_doubled c cs then without_first cs
    else cs

-- something else is expected than what stands here
abbrev pub unexpected : List ℕ → Reading
unexpected [] = reports (fault_between 0 0 flaws.Unexpected)
unexpected (c ∷ cs) =
    if is_raw c cs then unjudged
    else if c == double_quote then unexpected_value (behind_value cs) (c ∷ cs)
    else if is_end c cs
    then reports (fault_between (bytes_of (c ∷ cs)) (bytes_of (c ∷ cs)) flaws.Unexpected)
    else reports (fault_up_to (c ∷ cs) (behind_token c cs) flaws.Unexpected)

-- ---- keys

-- a key is read once a comma, a parenthesis that closes or the end follows
abbrev pub is_follower : List ℕ → Bool
is_follower [] = true
is_follower (c ∷ cs) = c == comma || c == closing

-- the key at the front of a text, whose value is read up to this rest
abbrev pub read_judged : Option PlatformFlaw → List ℕ → List ℕ → Reading
read_judged None cs rest = member rest
read_judged (Some flaw) cs rest = reports (fault_up_to cs (behind_run in_key cs) flaw)

abbrev pub read_follower : List ℕ → Option (List ℕ) → List ℕ → Reading
read_follower cs value rest =
    if is_follower rest then read_judged (key_flaw (run in_key cs) value) cs rest
    else unexpected rest

-- the value behind a quote, for the key at the front of a text
abbrev pub read_quoted : List ℕ → Option (List ℕ) → List ℕ → Reading
read_quoted cs None rest = unexpected (double_quote ∷ rest)
read_quoted cs (Some behind) rest =
    read_follower cs (Some (run (in_run runs.Value) rest)) (behind_spaces behind)

-- what stands behind `=`, without spaces
abbrev pub read_value : List ℕ → List ℕ → Reading
read_value cs [] = unexpected []
read_value cs (c ∷ rest) =
    if c == double_quote then read_quoted cs (behind_value rest) rest
    else unexpected (c ∷ rest)

-- what stands behind the key at the front of a text, without spaces
abbrev pub read_key : List ℕ → List ℕ → Reading
read_key cs [] = read_follower cs None []
read_key cs (c ∷ rest) =
    if c == equals_sign then read_value cs (behind_spaces rest)
    else read_follower cs None (c ∷ rest)

-- ---- groups

-- the level of a group at the front of a text, by what stands from its parenthesis on
abbrev pub level_at : List ℕ → List ℕ → Level
level_at cs parenthesis = record {
  is_not = pointwise nat_eq (run in_key cs) (codes "not");
  from = bytes_of cs;
  opening = bytes_of parenthesis;
  opened = bytes_of (without_first parenthesis);
  members = 0;
}

-- what stands behind the name of a group at the front of a text, without spaces
abbrev pub read_group : List ℕ → List ℕ → Reading
read_group cs [] = unexpected []
read_group cs (c ∷ opened) =
    if c == opening then opens (level_at cs (c ∷ opened)) opened else unexpected (c ∷ opened)

-- ---- places

-- a key or the name of a group at the front of a text
abbrev pub read_word : List ℕ → Reading
read_word cs =
    if is_one_of (run in_key cs) groups then read_group cs (behind_spaces (behind_run in_key cs))
    else read_key cs (behind_spaces (behind_run in_key cs))

-- a parenthesis that closes, before these characters
abbrev pub read_closing : After → List ℕ → Reading
read_closing before cs =
    if is_end closing cs
    then (if takes_end before then ends cs else unexpected (closing ∷ cs))
    else (if takes_closing before then closes (closing ∷ cs) else unexpected (closing ∷ cs))

-- what stands behind this, without spaces
abbrev pub read : After → List ℕ → Reading
read before [] = unexpected []
read before (c ∷ cs) =
    if is_raw c cs then unjudged
    else if begins_key c && takes_member before then read_word (c ∷ cs)
    else if c == comma && takes_comma before then separates cs
    else if c == closing then read_closing before cs
    else unexpected (c ∷ cs)

-- what is read at a place, behind this
unfoldable pub reading_at : After → List ℕ → Reading
reading_at before cs = read before (behind_spaces cs)
