use Rattle.std.proofs.Common.{option_map, string_bytes, take}
use Rattle.std.proofs.lemmas.Result.{IfOk-weaker}
use Rattle.toml.specs.Errors.{span_end, span_start}
use Rattle.toml_spans.specs.Place.{IsPlace}
use Rattle.nextest_config_lint.specs.Found.{mistaken_of}
use Rattle.nextest_config_lint.proofs.file.not_toml.Goals as goal

pub returns-clause-reported : goal.returns-clause-reported
returns-clause-reported c =
    let range = c.in-Some.ensures.range in
    let begins : IsPlace (take (span_start c.args.error.now) c.args.text.now) c.place_after.result = rw range.0 at c.place_after.ensures in
    let ends : IsPlace (take (span_end c.args.error.now) c.args.text.now) c.place_after-2.result = rw range.1 at c.place_after-2.ensures in
    IfOk-weaker c.alone.result _ _ (λ located reported. record {
      message = string_bytes c.in_ok-message.message;
      mistake = option_map mistaken_of c.in_ok-mistake.mistake;
      known = rw (c.split_at.ensures.back, range.0, range.1) at c.in_ok-mistake.ensures;
      alone = record { span = record { begin = c.place_after.result; end = c.place_after-2.result }; begins = begins; ends = ends; reported = reported };
    }) c.alone.ensures
