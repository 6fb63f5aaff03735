use Rattle.std.proofs.Common.{◌≡◌, ℕ, ◌==◌, true, false, List, [], ◌++◌, codes, length, string_bytes, refl, rules, sym}
use Rattle.std.proofs.Output.{has_written_styled_nil, has_written_styled_of_eq}
use Rattle.toml_spans.proofs.Styled.{styled_after, styled_more}
use Rattle.nextest_config_values.specs.Read.{path_text, styled_kind_text}
use Rattle.nextest_config_values.proofs.read.fault.ReadFaultDisplay.fmt.Goals.{then-not-is_empty+in_ok-write_str+in_ok-write_str-2, else-not-is_empty}
use Rattle.nextest_config_values.proofs.read.fault.ReadFaultDisplay.fmt.Goals as goal

no_path : (path : List ℕ) → true ≡ (length path == 0) → path_text path ≡ []
no_path path e = search rules

some_path : (path : List ℕ) → false ≡ (length path == 0) → path_text path ≡ path ++ codes ": "
some_path path e = search rules

pub returns-clause-styled : goal.returns-clause-styled
returns-clause-styled g c =
    let took = g.W.Write.write_str_gives in
    let path : List ℕ = string_bytes c.args.self.now.path in
    styled_after took c.args.f.now c.if-not-is_empty.f c.fmt.new.f c.fmt.result (path_text path) (styled_kind_text c.args.self.now.kind) (λ flush. elim c.if-not-is_empty.branch [
      | then-not-is_empty+in_ok-write_str+in_ok-write_str-2 w ↦
          rw w.f-is (styled_more (rw w.as_str.ensures.value at w.in_ok-write_str.ensures.styled flush refl)
          w.in_ok-write_str-2.ensures.styled refl (sym (some_path path (rw c.args.self.now.path.bytes.ok.0 at w.if-not-is_empty.ensures))))
      | else-not-is_empty w ↦ rw w.f-is (has_written_styled_of_eq took _ _ _ _ (sym (no_path path (rw c.args.self.now.path.bytes.ok.0 at w.if-not-is_empty.ensures))) (has_written_styled_nil took c.args.f.now flush))
    ]) c.fmt.ensures.styled
