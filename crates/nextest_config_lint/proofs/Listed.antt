-- The list of topics, line by line.
use Rattle.std.proofs.Common.{◌≡◌, ◌<◌, ◌+◌, ◌++◌, ◌∷◌, [], ◌∙◌, ℕ, List, ap, get_or, length, sym, take}
use Rattle.std.proofs.lemmas.List.{flat_map_more, map_push, take_more}
use Rattle.nextest_config_lint.specs.Explain.TopicList.{AreListed, explanation_line}
use Rattle.nextest_config_lint.specs.declared.explain.explanation.Explanation.{Explanation}
use Rattle.nextest_config_lint.specs.declared.explain.topic.Topic.{Topic}

pub one_more : (all : List Topic) (i : ℕ) (d : Topic) (text more : List ℕ) (explanation : Explanation) → i < length all
    → AreListed (take i all) text → explanation.topic ≡ get_or all i d → more ≡ text ++ explanation_line explanation → AreListed (take (i + 1) all) more
one_more all i d text more explanation within so is pushed = record {
  explanations = so.explanations ++ (explanation ∷ []);
  each = map_push (λ explanation. explanation.topic) so.explanations explanation ∙ ap (λ before. before ++ (explanation.topic ∷ [])) so.each ∙ ap (λ topic. take i all ++ (topic ∷ [])) is ∙ sym (take_more all i d within);
  lines = pushed ∙ ap (λ before. before ++ explanation_line explanation) so.lines ∙ flat_map_more explanation_line [] so.explanations explanation;
}
