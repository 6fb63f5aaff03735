use Rattle.std.proofs.Common.{[], map, string_bytes, take}
use Rattle.nextest_config_lint.specs.Defined.{AddsNames, file_of, IsNameIn}
use Rattle.nextest_config_lint.proofs.defined.names_in.Given as goal

-- those of the files so far
abbrev pub invariant-loop-file : goal.invariant-loop-file
invariant-loop-file l = AddsNames (IsNameIn l.kind (map file_of (take l.file-index l.files))) [] (map string_bytes l.names.keys)
