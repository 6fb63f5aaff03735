-- Identifiers and tool names.
pub mod Error
pub mod Normal
pub mod KeptText
pub mod ConfigIdentifier
pub mod ToolName
pub mod Laws
pub use Error.{flawed, identifier_fault, identifier_fault_text, IdentifierFlaw, NameFault, tool_name_fault, tool_name_fault_text, ToolNameFlaw}
pub use Normal.{Grammar, IsKeptText, IsNormalFault, IsNormalText, IsQuicklyNormal, normal_chars, normal_form, SameAnswers}
pub use KeptText.{FitsInline, inline_capacity, IsPlaced, text_at}
pub use ConfigIdentifier.{AreComponents, AreFlawed, HasNoColon, IsCutAtColon, IsIdentifier, IsIdentifierFault, IsIdentifierFlaw, IsIdentifierForm, IsMarked, tool_mark}
pub use ToolName.{IsToolName, IsToolNameFault, IsToolNameFlaw}
pub use Laws.{after_mark, cut_or_none, identifier_grammar, name_reading, no_colon_uncut, one_cut, plain_no_at_sign, plain_no_colon, same_cut, tool_name_grammar, one_tool_name_or_fault, uncut}
