use Rattle.std.proofs.Common.{append_assoc}
use Rattle.nextest_config_output.proofs.findings.json_line.push_json.Goals as goal

pub returns : goal.returns
returns c =
    rw (c.in_ok-push_str.ensures.bytes, c.in_ok-push_text-4.ensures, c.in_ok-push_text-3.ensures, c.in_ok-push_text-2.ensures, c.in_ok-push_text.ensures, c.severity_word.ensures, c.in_ok-push_number-4.ensures, c.in_ok-push_number-3.ensures, c.in_ok-push_number-2.ensures, c.in_ok-push_number.ensures, c.in_ok-write.ensures.bytes, c.in_ok-path.ensures) (simp append_assoc)
