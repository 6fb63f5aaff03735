-- What is met before the end of a text.
use Rattle.std.proofs.Common.{◌≡◌, Bool, true, false, sym, ◌∙◌}
use Rattle.std.specs.Prelude.{◌||◌}

-- one piece more is met
pub met_more : (met here before after all : Bool) → before ≡ (here || after) → (met || before) ≡ all
    → ((met || here) || after) ≡ all
met_more true here before after all more so_far = so_far
met_more false here before after all more so_far = sym more ∙ so_far
