use Rattle.std.proofs.Common.{Some, None, refl, inl}
use Rattle.std.proofs.lemmas.Bool.{false≢true}
use Rattle.std.proofs.lemmas.Result.{err_from_is_err_and}
use Rattle.nextest_config_values.proofs.Faults.{fault_mapped}
use Rattle.nextest_config_values.proofs.Texts.{split_colon}
use Rattle.nextest_config_elements.proofs.Limits.{cut_count, fault_passed, limit_passed, no_limit_at_bad_mode, none_passed, whole_count}
use Rattle.nextest_config_elements.specs.MaxFail.{bad_mode, IsAllText, limit_fault}
use Rattle.nextest_config_elements.specs.declared.max_fail.TerminateMode.TheVariants.{Wait}
use Rattle.nextest_config_elements.proofs.max_fail.MaxFail.from_str.Goals as goal

pub returns-in_err-terminate-in-Some : goal.returns-in_err-terminate-in-Some
returns-in_err-terminate-in-Some c =
    let not_all : ¬ (IsAllText c.args.s.now) = λ all. false≢true (c.if-eq_ignore_ascii_case.ensures.test.1 all) in
    let cut = split_colon c.args.s.now (Some (c.in-Some.count, c.in-Some.mode)) c.utf8.s c.in-Some.ensures.cases in
    let passed = err_from_is_err_and c.from_residual.result c.from_residual.ensures.1 in
    record {
      accepted = rw passed.1 tt;
      refused = rw (passed.1, passed.2) (fault_mapped (limit_fault c.in_err-terminate-in-Some.field-0.0) c.in_err-terminate-in-Some.ensures.refused (λ memory. memory)
          (λ fault same. inl (not_all, c.in-Some.count.now, c.in-Some.mode.now, cut.bytes, c.in_err-terminate-in-Some.ensures.only, same)));
      only = rw passed.1 (λ limit. no_limit_at_bad_mode c.args.s.now (bad_mode c.in-Some.mode.now) limit
          (not_all, c.in-Some.count.now, c.in-Some.mode.now, cut.bytes, c.in_err-terminate-in-Some.ensures.only, refl));
    }

pub returns-in_ok-terminate-in-Some : goal.returns-in_ok-terminate-in-Some
returns-in_ok-terminate-in-Some c =
    let cut = split_colon c.args.s.now (Some (c.in-Some.count, c.in-Some.mode)) c.utf8.s c.in-Some.ensures.cases in
    let mode = c.in_ok-terminate-in-Some.terminate in
    let has = cut_count c.args.s.now c.in-Some.count.now c.in-Some.mode.now mode (λ all. false≢true (c.if-eq_ignore_ascii_case.ensures.test.1 all)) cut.bytes c.in_ok-terminate-in-Some.ensures.accepted in
    record {
      accepted = limit_passed c.args.s.now c.in-Some.count.now mode c.of_count.result has c.of_count.ensures.accepted;
      refused = fault_passed c.args.s.now c.in-Some.count.now mode c.of_count.result has c.of_count.ensures.refused;
      only = none_passed c.args.s.now c.in-Some.count.now mode c.of_count.result has c.of_count.ensures.only;
    }

pub returns-in-None : goal.returns-in-None
returns-in-None c =
    let text = c.args.s.now in
    let has = whole_count text (λ all. false≢true (c.if-eq_ignore_ascii_case.ensures.test.1 all)) (split_colon text None c.utf8.s c.in-None.ensures.cases) in
    record {
      accepted = limit_passed text text Wait c.of_count-in-None.result has c.of_count-in-None.ensures.accepted;
      refused = fault_passed text text Wait c.of_count-in-None.result has c.of_count-in-None.ensures.refused;
      only = none_passed text text Wait c.of_count-in-None.result has c.of_count-in-None.ensures.only;
    }
