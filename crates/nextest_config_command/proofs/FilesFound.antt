-- The files that were found, one more.
use Rattle.std.specs.Prelude.{◌||◌}
use Rattle.std.proofs.Common.{◌≡◌, ◌++◌, ◌∷◌, [], ◌∙◌, ℕ, ap, append-nil, append_assoc, Bool, codes, false, List, Option, refl, true}
use Rattle.std.proofs.lemmas.Grind.{flat_map-append}
use Rattle.std.proofs.lemmas.List.Folds.{list_any-append}
use Rattle.nextest_config_values.specs.Literal.Shown.{shown_text}
use Rattle.nextest_config_command.specs.Files.{File}
use Rattle.nextest_config_command.specs.Found.{file_there, hint, is_unread, list_of, notice, notice_of, Outcome, with_outcome}

or_false : (b : Bool) → (b || false) ≡ b
or_false true = refl
or_false false = refl

pub one_more_found : (tools : List File) (outcomes : List Outcome) (outcome : Outcome) → with_outcome (list_of tools outcomes) outcome ≡ list_of tools (outcomes ++ (outcome ∷ []))
one_more_found tools outcomes outcome =
    rw (
      flat_map-append file_there outcomes (outcome ∷ []),
      flat_map-append notice_of outcomes (outcome ∷ []),
      list_any-append is_unread outcomes (outcome ∷ []),
      append-nil (file_there outcome),
      append-nil (notice_of outcome),
      or_false (is_unread outcome),
    )
    refl

-- the line of a path at which no file is, of its parts
pub notice_joined : (front path : List ℕ) (folder : Option (List ℕ)) → ((front ++ (codes "no configuration file: " ++ (shown_text path ++ codes " isn't there"))) ++ hint folder) ++ codes "\n" ≡ front ++ notice path folder
notice_joined front path folder =
    let begin = codes "no configuration file: " in
    let end = hint folder ++ codes "\n" in
    let missing = shown_text path ++ codes " isn't there" in
    append_assoc (front ++ (begin ++ missing)) (hint folder) (codes "\n")
    ∙ append_assoc front (begin ++ missing) end
    ∙ ap (λ text. front ++ text) (append_assoc begin missing end)
    ∙ ap (λ text. front ++ (begin ++ text)) (append_assoc (shown_text path) (codes " isn't there") end)
