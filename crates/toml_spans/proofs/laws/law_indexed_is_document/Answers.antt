use Rattle.std.proofs.Common.{refl}
use Rattle.toml_spans.proofs.Promised.{read}
use Rattle.toml_spans.proofs.laws.law_indexed_is_document.Goals as goal

pub returns : goal.returns
returns c text index is = rw (read text _ is.walked).1 refl
