use Rattle.std.proofs.Common.{◌≡◌, ◌∙◌, List, sym, subst, ap, ap₂, map, option_map}
use Rattle.std.proofs.lemmas.Result.{IfOk-weaker}
use Rattle.semver.specs.Identifiers.{parts_of}
use Rattle.semver.specs.Parse.{Parts}
use Rattle.nextest_config.specs.Board.Slots.{board_list, BoardState, roles_in, slots_of}
use Rattle.nextest_config.specs.NextestVersion.Verdict.{Verdict}
use Rattle.nextest_config.specs.NextestVersion.{alone, IsSelected, kept_from, verdict, verdict_by, verdict_of}
use Rattle.nextest_config.proofs.Slots.{board_selects, selected_as}
use Rattle.nextest_config.proofs.Verdicts.{satisfied_where_all}
use Rattle.nextest_config.proofs.board.config_board.ConfigBoard.eval.Goals as goal

pub returns : goal.returns
returns c =
    let current : Parts = parts_of c.args.current.now in
    let all = board_selects c.self.inside.sources.items c.self.inside.tree c.self.invariant c.whole-chosen.result c.whole-chosen.ensures current c.args.override_version_check in
    let seen : slots_of c.self.inside.sources.items c.self.inside.tree ≡ c.args.self.now.slots = ap (λ (state : BoardState). state.slots) c.self.view_is in
    let required = c.borrow_unmet.ensures ∙ (rw c.deref.ensures.value at c.unmet_in-required.ensures) in
    let recommended = c.borrow_unmet-2.ensures ∙ (rw c.deref-2.ensures.value at c.unmet_in-recommended.ensures) in
    let told = ap₂ (λ first second. verdict_by first second current c.args.override_version_check) required recommended in
    let v : Verdict = verdict_by (option_map (λ unmet. kept_from unmet.0.now unmet.1.now) c.borrow_unmet.result) (option_map (λ unmet. kept_from unmet.0.now unmet.1.now) c.borrow_unmet-2.result) current c.args.override_version_check in
    let verdicts : List Verdict = map (alone current c.args.override_version_check) (board_list c.args.self.now.slots) in
    let selected : IsSelected verdicts v = selected_as (slots_of c.self.inside.sources.items c.self.inside.tree) c.args.self.now.slots (verdict (roles_in c.self.inside.sources.items c.whole-chosen.result) current c.args.override_version_check) v current c.args.override_version_check seen (sym told) all in
    record {
      selected = IfOk-weaker c.judge.result _ _ (λ eval (told : verdict_of eval ≡ v). subst (IsSelected verdicts) (sym told) selected) c.judge.ensures.value;
      satisfied = λ each. c.judge.ensures.satisfied ((satisfied_where_all verdicts v selected).1 each);
    }
