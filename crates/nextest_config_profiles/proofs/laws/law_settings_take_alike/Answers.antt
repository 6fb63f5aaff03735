use Rattle.nextest_config_elements.specs.declared.field.Shape.TheVariants.{Duration}
use Rattle.nextest_config_profiles.proofs.TakenSettings.{shape_taken, text_taken}
use Rattle.nextest_config_profiles.proofs.laws.law_settings_take_alike.Goals as goal

pub returns : goal.returns
returns c = record { shapes = shape_taken; global_timeout = shape_taken Duration; texts = text_taken }
