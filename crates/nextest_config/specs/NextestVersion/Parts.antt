-- What is joined part by part.
use Rattle.std.specs.Prelude.{◌≡◌}
use Rattle.std.proofs.Common.{sym, ap, ap₂, ◌∙◌}
use Rattle.nextest_config.specs.Merge.{IsMonoid}

-- two parts, each with its own join, are joined part by part
side_by_side : {A B : Type 0} (j : A → A → A) (k : B → B → B) (a : A) (b : B) → IsMonoid j a
    → IsMonoid k b → IsMonoid (λ (x y : A × B). (j x.0 y.0, k x.1 y.1)) (a, b)
side_by_side {A} {B} j k a b first second =
    let pair : A → B → A × B = λ u v. (u, v) in
    record {
      associative = λ x y z. ap₂ pair (first.associative x.0 y.0 z.0)
          (second.associative x.1 y.1 z.1);
      neutral_first = λ x. ap₂ pair (first.neutral_first x.0) (second.neutral_first x.1);
      neutral_last = λ x. ap₂ pair (first.neutral_last x.0) (second.neutral_last x.1);
    }

-- what has two parts and nothing else is joined part by part
pub parts_join : {A B R : Type 0} (parts : R → A × B) (whole : A × B → R) (j : A → A → A)
    (k : B → B → B) (a : A) (b : B) → ((p : A × B) → parts (whole p) ≡ p)
    → ((r : R) → whole (parts r) ≡ r) → IsMonoid j a → IsMonoid k b
    → IsMonoid (λ x y. whole (j (parts x).0 (parts y).0, k (parts x).1 (parts y).1)) (whole (a, b))
parts_join {A} {B} {R} parts whole j k a b back again first second =
    let join : A × B → A × B → A × B = λ x y. (j x.0 y.0, k x.1 y.1) in
    let laws = side_by_side j k a b first second in
    record {
      associative = λ x y z. ap whole (ap (λ p. join p (parts z)) (back (join (parts x) (parts y)))
          ∙ laws.associative (parts x) (parts y) (parts z)
          ∙ ap (join (parts x)) (sym (back (join (parts y) (parts z)))));
      neutral_first = λ x. ap whole (ap (λ p. join p (parts x)) (back (a, b))
          ∙ laws.neutral_first (parts x)) ∙ again x;
      neutral_last = λ x. ap whole (ap (join (parts x)) (back (a, b))
          ∙ laws.neutral_last (parts x)) ∙ again x;
    }
