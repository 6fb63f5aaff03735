-- Of what is judged one thing comes.
use Rattle.std.specs.Prelude.{◌≡◌, ℕ, List}
use Rattle.std.proofs.Common.{subst, sym, ◌∙◌}
use Rattle.toml.specs.Data.{Data, string}
use Rattle.nextest_config_values.specs.Read.Fault.{Fault}
use Rattle.nextest_config_elements.specs.declared.field.Shape.{Shape}
use Rattle.nextest_config_elements.specs.declared.field.Shape.TheVariants as shapes
use Rattle.nextest_config_filters.proofs.Platforms.Laws.{one_fault as one_platform_fault}
use Rattle.nextest_config_filters.proofs.Ranges.{one_fault}
use Rattle.nextest_config_filters.specs.Fault.{Fault as TextFault}
use Rattle.nextest_config_filters.specs.declared.filter.FilterPlace.TheVariants as places
use Rattle.nextest_config.specs.NextestVersion.{features_under, FeatureSetting}
use Rattle.nextest_config.specs.declared.nextest_version.edition.Edition.{Edition}
use Rattle.nextest_config_lint.specs.Rules.{rules_check}
use Rattle.nextest_config_lint.specs.Settings.{a_value, absent_key, between, features_at, Subject, refused_key}
use Rattle.nextest_config_lint.specs.Shapes.{shape_check}
use Rattle.nextest_config_lint.specs.Subjects.{IsRight, IsWrong, NamesFeatures}
use Rattle.nextest_config_lint.specs.Texts.{IsFaultIn, IsTextFault}

pub one_wrong : (edition : Edition) (subject : Subject) (f g : Fault) → IsWrong edition subject f → IsWrong edition subject g → f ≡ g
one_wrong edition (a_value shape parts value) f g h k = (shape_check edition shape).one_fault value f g h k
one_wrong edition (absent_key name) f g h k = h ∙ sym k
one_wrong edition (refused_key name expected known) f g h k = h ∙ sym k
one_wrong edition (between rules value) f g h k = (rules_check rules).one_fault value f g h k
one_wrong edition (features_at value) f g h k = absurd h

pub never_wrong : (edition : Edition) (subject : Subject) (fault : Fault) → IsRight edition subject → IsWrong edition subject fault → ⊥
never_wrong edition (a_value shape parts value) fault h k = (shape_check edition shape).never_both value fault h k
never_wrong edition (absent_key name) fault h k = h
never_wrong edition (refused_key name expected known) fault h k = h
never_wrong edition (between rules value) fault h k = (rules_check rules).never_both value fault h k
never_wrong edition (features_at value) fault h k = k

pub named_not_right : (edition : Edition) (subject : Subject) (value : Data) (named : FeatureSetting) → NamesFeatures edition subject value named → IsRight edition subject → ⊥
named_not_right edition subject value named (is, means) right =
    let wrong = subst (IsRight edition) is right in
    (features_under edition).law.never_both value named wrong.0 means wrong.1

pub named_not_wrong : (edition : Edition) (subject : Subject) (value : Data) (named : FeatureSetting) (fault : Fault) → NamesFeatures edition subject value named → IsWrong edition subject fault → ⊥
named_not_wrong edition subject value named fault (is, means) wrong = subst (λ (it : Subject). IsWrong edition it fault) is wrong

-- ---- of a text

one_fault_in : (shape : Shape) (text : List ℕ) (f g : TextFault) → IsFaultIn shape text f → IsFaultIn shape text g → f ≡ g
one_fault_in shapes.Filter text f g h k = one_fault places.Filter text f g h k
one_fault_in shapes.DefaultFilter text f g h k = one_fault places.DefaultFilter text f g h k
one_fault_in shapes.Platform text f g h k = one_platform_fault text f g h k
one_fault_in shapes.PlatformText text f g h k = one_platform_fault text f g h k
one_fault_in shape text f g h k = absurd h

pub one_text_fault : (subject : Subject) (f g : TextFault) → IsTextFault subject f → IsTextFault subject g → f ≡ g
one_text_fault (a_value shape parts (string text)) f g h k = one_fault_in shape text f g h k
one_text_fault subject f g h k = absurd h
