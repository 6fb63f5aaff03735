use Rattle.std.proofs.Common.{◌∙◌, sym, ap, subst, arith, rules, option_map, string_bytes}
use Rattle.std.specs.Str.{IsUtf8}
use Rattle.nextest_config_filters.specs.Fault.{platform}
use Rattle.nextest_config_filters.specs.Platform.Hint.{IsPlatformHint}
use Rattle.nextest_config_filters.proofs.Characters.{utf8_of_chars}
use Rattle.nextest_config_filters.proofs.platform.hinted.Goals as goal

pub returns : goal.returns
returns c =
    let flaw = c.args.fault.now.flaw in
    let hint = option_map string_bytes c.in_ok-hint.hint in
    let utf8 : IsUtf8 c.args.fault.now.found.now = search rules in
    let found = c.in_ok-found.ensures.ok ∙ sym (utf8_of_chars c.args.fault.now.found.now utf8) in
    record {
      hint = hint;
      begin = omega (arith, c.size.ensures, c.requires.from);
      end = omega (arith, c.size-2.ensures, c.requires.behind);
      kind = ap (λ bytes. platform flaw bytes hint) found;
      is_hint = subst (λ bytes. IsPlatformHint flaw bytes hint) (c.as_str.ensures.value ∙ found) c.in_ok-hint.ensures;
    }
