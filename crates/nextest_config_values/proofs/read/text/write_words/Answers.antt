use Rattle.std.proofs.Common.{◌≡◌, ◌++◌, ◌<◌, ◌≤◌, ℕ, Bor, codes, List, [], ◌∷◌, length, slice_index_or, refl, arith}
use Rattle.std.proofs.Output.{has_written_styled_of_eq}
use Rattle.toml_spans.proofs.Styled.{styled_then}
use Rattle.nextest_config_values.specs.Read.{backquoted_word, backquoted_words, words_of, words_text}
use Rattle.nextest_config_values.proofs.read.text.write_words.Goals as goal

two_text : (words : List (Bor (List ℕ))) (none : Bor (List ℕ)) → 2 ≤ length words → length words < 3
    → backquoted_word (slice_index_or words 0 none).now ++ (codes " or " ++ backquoted_word (slice_index_or words 1 none).now) ≡ words_text (words_of words)
two_text [] none low high = absurd (omega arith)
two_text (word ∷ []) none low high = absurd (omega arith)
two_text (word ∷ other ∷ []) none low high = refl
two_text (word ∷ other ∷ third ∷ rest) none low high = absurd (omega arith)

more_text : (words : List (Bor (List ℕ))) → 3 ≤ length words → codes "one of " ++ backquoted_words (words_of words) ≡ words_text (words_of words)
more_text [] low = absurd (omega arith)
more_text (word ∷ []) low = absurd (omega arith)
more_text (word ∷ other ∷ []) low = absurd (omega arith)
more_text (word ∷ other ∷ third ∷ rest) low = refl

pub returns-in_ok-write_str-in-len2-clause-styled : goal.returns-in_ok-write_str-in-len2-clause-styled
returns-in_ok-write_str-in-len2-clause-styled g c flush ok =
    has_written_styled_of_eq _ _ _ _ _ (two_text c.args.words.now _ c.in-len2.len_at_least c.in-len2.len_below)
    (styled_then (λ so. c.in_ok-write_word-in-len2.ensures.styled so refl)
    (styled_then (λ so. c.in_ok-write_str-in-len2.ensures.styled so refl) c.write_word-in-len2-2.ensures.styled) flush ok)

pub returns-in_ok-write_str-in_default-clause-styled : goal.returns-in_ok-write_str-in_default-clause-styled
returns-in_ok-write_str-in_default-clause-styled g c flush ok =
    has_written_styled_of_eq _ _ _ _ _ (more_text c.args.words.now c.in_default.len_at_least)
    (styled_then (λ so. c.in_ok-write_str-in_default.ensures.styled so refl) c.write_listed.ensures.styled flush ok)
