use Rattle.std.proofs.Common.{◌∙◌, sym, ap, subst, arith, rules, option_map, string_bytes}
use Rattle.std.specs.Str.{chars, IsUtf8}
use Rattle.nextest_config_filters.specs.Fault.{filter, found_of}
use Rattle.nextest_config_filters.specs.Filter.Hint.{IsHint}
use Rattle.nextest_config_filters.proofs.Characters.{utf8_of_chars}
use Rattle.nextest_config_filters.proofs.Ranges.{bytes_joined, bytes_of_parts}
use Rattle.nextest_config_filters.proofs.filter.hinted.Goals as goal

pub overflow_sub-end : goal.overflow_sub-end
overflow_sub-end c =
    let what = chars c.args.fault.now.what.now in
    let behind = chars c.args.fault.now.behind.now in
    omega (arith, bytes_of_parts c.requires.0 (chars c.args.text.now) what behind c.requires.1, c.size.ensures, c.size-2.ensures)

pub overflow_sub-begin : goal.overflow_sub-begin
overflow_sub-begin c =
    let what = chars c.args.fault.now.what.now in
    let behind = chars c.args.fault.now.behind.now in
    omega (arith, bytes_of_parts c.requires.0 (chars c.args.text.now) what behind c.requires.1, c.size.ensures, c.size-2.ensures, c.size-3.ensures)

pub returns : goal.returns
returns c =
    let what = chars c.args.fault.now.what.now in
    let parts = bytes_of_parts c.requires.0 (chars c.args.text.now) what (chars c.args.fault.now.behind.now) c.requires.1 in
    let flaw = c.args.fault.now.flaw in
    let hint = option_map string_bytes c.in_ok-hint.hint in
    let utf8 : IsUtf8 c.args.fault.now.found.now = search rules in
    let found = c.in_ok-found.ensures.ok ∙ sym (utf8_of_chars c.found_text.result.now c.found_text.utf8) in
    record {
      front = c.requires.0;
      whole = c.requires.1;
      begin = omega (arith, parts, c.size.ensures, c.size-2.ensures, c.size-3.ensures);
      end = omega (arith, parts, bytes_joined c.requires.0 what, c.size.ensures, c.size-2.ensures);
      hint = hint;
      kind = ap (λ bytes. filter flaw bytes hint) (ap (found_of flaw) found ∙ c.found_text.ensures);
      is_hint = subst (λ bytes. IsHint c.args.text.now flaw bytes hint) (sym (utf8_of_chars c.args.fault.now.found.now utf8)) c.in_ok-hint.ensures;
    }
