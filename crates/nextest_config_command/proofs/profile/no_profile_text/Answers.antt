use Rattle.std.proofs.Common.{◌≡◌, ◌++◌, ◌∙◌, ap, append_assoc, codes, rules, string_bytes}
use Rattle.toml_spans.specs.QuotedText.{quoted_text}
use Rattle.nextest_config_profiles.specs.Reach.{words_of}
use Rattle.nextest_config_report.specs.Names.{names_text}
use Rattle.nextest_config_command.specs.Profile.{path_hint}
use Rattle.nextest_config_command.proofs.profile.no_profile_text.Goals as goal

pub returns : goal.returns
returns c =
    let names = words_of c.in_ok-names.names.items in
    let name = quoted_text c.args.name.now in
    let front = codes "no profile " ++ (name ++ codes ", there are ") in
    let hint = path_hint c.args.name.now in
    let first : string_bytes c.in_ok-text.text ≡ front = search rules in
    let more : string_bytes c.push_names.new.text ≡ string_bytes c.in_ok-text.text ++ names_text names = rw c.as_slice.ensures.value at c.in_ok-push_names.ensures in
    let all : string_bytes c.push_str.new.self ≡ string_bytes c.push_names.new.text ++ hint = rw c.path_hint.ensures at c.in_ok-push_str.ensures.bytes in (
      names,
      record { are_names = c.in_ok-names.ensures.names; in_order = c.in_ok-names.ensures.order },
      all ∙ ap (λ text. text ++ hint) (more ∙ ap (λ text. text ++ names_text names) first)
          ∙ append_assoc front (names_text names) hint
          ∙ append_assoc (codes "no profile ") (name ++ codes ", there are ") (names_text names ++ hint)
          ∙ ap (λ text. codes "no profile " ++ text) (append_assoc name (codes ", there are ") (names_text names ++ hint)),
    )
