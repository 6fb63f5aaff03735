-- What is wrong with a text that has a syntax of its own: a filter, or a platform.
use Rattle.std.specs.Prelude.{ℕ, List}
use Rattle.toml.specs.Data.{string}
use Rattle.nextest_config_elements.specs.declared.field.Shape.{Shape}
use Rattle.nextest_config_elements.specs.declared.field.Shape.TheVariants as shapes
use Rattle.nextest_config_filters.specs.Fault.{Fault as TextFault}
use Rattle.nextest_config_filters.specs.Filter.{IsFilterFault}
use Rattle.nextest_config_filters.specs.Platform.Fault.{IsPlatformFault}
use Rattle.nextest_config_filters.specs.declared.filter.FilterPlace.TheVariants as places
use Rattle.nextest_config_lint.specs.Settings.{a_value, Subject}

-- a text of this shape has this fault (nextest's documentation of filtersets; the Rust reference,
-- "Conditional compilation")
abbrev pub IsFaultIn : Shape → List ℕ → TextFault → Type 0
IsFaultIn shapes.Filter text fault = IsFilterFault places.Filter text fault
IsFaultIn shapes.DefaultFilter text fault = IsFilterFault places.DefaultFilter text fault
IsFaultIn shapes.Platform text fault = IsPlatformFault text fault
IsFaultIn shapes.PlatformText text fault = IsPlatformFault text fault
IsFaultIn shape text fault = ⊥

-- what is judged is a text that has this fault
abbrev pub IsTextFault : Subject → TextFault → Type 0
IsTextFault (a_value shape parts (string text)) fault = IsFaultIn shape text fault
IsTextFault subject fault = ⊥

-- what is judged is no text that has a fault
abbrev pub HasNoTextFault : Subject → Type 0
HasNoTextFault subject = (fault : TextFault) → IsTextFault subject fault → ⊥
