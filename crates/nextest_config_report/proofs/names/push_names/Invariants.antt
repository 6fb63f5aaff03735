use Rattle.std.proofs.Common.{◌≡◌, ◌++◌, string_bytes, take}
use denote.Text.{Utf8}
use denote.Shadow.{shadow}
use Rattle.nextest_config_values.proofs.Joined.{separator_after}
use Rattle.nextest_config_report.specs.Names.{names_text, texts_of}
use Rattle.nextest_config_report.proofs.names.push_names.Given as goal

-- those so far
abbrev pub invariant-loop-name : goal.invariant-loop-name
invariant-loop-name l =
    shadow (Utf8 l.separator)
    × (l.separator ≡ separator_after (take l.name-index l.names))
    × (string_bytes l.text ≡ string_bytes l.fn.text ++ names_text (texts_of (take l.name-index l.names)))
