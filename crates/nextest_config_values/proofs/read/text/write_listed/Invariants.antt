use Rattle.std.proofs.Common.{◌≡◌, take}
use Rattle.std.specs.Fmt.{HasWrittenStyled, IsFlush}
use denote.Text.{Utf8}
use denote.Shadow.{shadow}
use Rattle.nextest_config_values.specs.Read.{backquoted_words, words_of}
use Rattle.nextest_config_values.proofs.Joined.{separator_after}
use Rattle.nextest_config_values.proofs.read.text.write_listed.Given as goal

-- the words so far are written, and between is what stands before the next one
abbrev pub invariant-loop-word : goal.invariant-loop-word
invariant-loop-word g l =
    shadow (Utf8 l.between)
    × (l.between ≡ separator_after (take l.word-index l.words))
    × (IsFlush l.fn.f → HasWrittenStyled g.W.Write.write_str_gives l.fn.f (backquoted_words (words_of (take l.word-index l.words))) l.f)
