-- Durations: their grammar, and its laws.
pub mod Grammar
pub mod Laws
pub mod Steps
pub mod Fronts
pub mod Unjudged
pub use Grammar.{AreAll, AreFittingDigits, BeginsWith, EndsWith, HasNumberThatFits, IsDuration, IsDurationFault, IsEndFault, IsFaultAfter, IsFront, IsItemText, IsLongestFront, IsNext, IsNextFault, IsRun, IsUncut, is_in_word, Item, length_in, offset, Spells, total, unit_length, units}
pub use Laws.{covers, never_duration_and_fault, nothing_stops, one_duration, one_duration_fault, one_next, one_spelling, Stops}
pub use Steps.{IsCutAfter, IsFaultAt, IsReadItem, rows}
pub use Fronts.{duration_in, duration_reading}
pub use Unjudged.{begins_with_digit, MayBeDuration, space_then_digit, without_fractions, without_fractions_and_gaps, without_gaps}
