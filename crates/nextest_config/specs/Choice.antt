-- The choices of a tree, and what one change costs.
pub mod Halvings
pub mod Choices
pub use Halvings.{halvings}
pub use Choices.{HoldsChoices}
