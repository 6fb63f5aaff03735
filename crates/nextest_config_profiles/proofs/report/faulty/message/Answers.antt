use Rattle.std.proofs.Common.{rules, string_bytes}
use Rattle.nextest_config_values.specs.Read.{fault_of}
use Rattle.nextest_config_profiles.proofs.Messages.{message_by}
use Rattle.nextest_config_profiles.proofs.report.faulty.message.Goals as goal

pub returns : goal.returns
returns c = message_by (fault_of c.args.fault) c.at-refused.result (string_bytes c.in_ok-text.text) (search rules) c.at-refused.ensures.told (search rules) (search rules)
