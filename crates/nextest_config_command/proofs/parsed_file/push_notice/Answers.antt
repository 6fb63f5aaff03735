use Rattle.std.proofs.Common.{◌≡◌, ◌++◌, ◌∙◌, ap, codes, option_map, string_bytes}
use Rattle.nextest_config_values.specs.Literal.Shown.{shown_text}
use Rattle.nextest_config_command.specs.Found.{hint}
use Rattle.nextest_config_command.proofs.FilesFound.{notice_joined}
use Rattle.nextest_config_command.proofs.parsed_file.push_notice.Goals as goal

pub returns : goal.returns
returns c =
    let old = string_bytes c.args.notices.now in
    let folder = option_map string_bytes c.args.folder.now in
    let missing = codes "no configuration file: " ++ (shown_text c.args.path.now ++ codes " isn't there") in
    let first : string_bytes c.write.new.self ≡ old ++ missing = c.in_ok-write.ensures.bytes in
    let second : string_bytes c.push_hint.new.notices ≡ string_bytes c.write.new.self ++ hint folder = c.in_ok-push_hint.ensures in
    c.in_ok-push_str.ensures.bytes ∙ ap (λ text. text ++ codes "\n") (second ∙ ap (λ text. text ++ hint folder) first) ∙ notice_joined old c.args.path.now folder
