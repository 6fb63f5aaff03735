use Rattle.std.proofs.Common.{◌∙◌, ◌∷◌, length, sym, ap, refl, subst, arith}
use Rattle.std.proofs.lemmas.Result.{err_from_is_err_and}
use Rattle.std.specs.Str.{chars}
use Rattle.nextest_config_filters.specs.Platform.Walk.{next_of, with_group, with_member}
use Rattle.nextest_config_filters.specs.declared.platform.reading.After.TheVariants as after
use Rattle.nextest_config_filters.proofs.Platforms.Readings.{Leaves, leaves_rest}
use Rattle.nextest_config_filters.proofs.Platforms.Walks.{levels_many, shown_reading}
use Rattle.nextest_config_filters.proofs.platform.walk.next_step.Goals as goal

pub with_member-requires : goal.with_member-requires
with_member-requires c =
    let cs = chars c.args.state.rest.now in
    let left = subst (Leaves cs) (sym c.in-Member.ensures) (leaves_rest c.args.state.after cs) in
    omega (arith, left.shorter, c.requires)

pub opened-requires : goal.opened-requires
opened-requires c =
    let cs = chars c.args.state.rest.now in
    let left = subst (Leaves cs) (sym c.in-Opens.ensures) (leaves_rest c.args.state.after cs) in
    omega (arith, left.behind.shorter, c.requires)

pub returns-in-Separates-clause-step : goal.returns-in-Separates-clause-step
returns-in-Separates-clause-step c now shows =
    let reading = c.in-Separates.ensures ∙ shown_reading _ c.args.state now shows in (
      record { before = after.Comma; level = now.level; outer = now.outer; rest = chars c.in-Separates.rest.now },
      ap (λ read. next_of read now.level now.outer) (sym reading),
      record { before = refl; level = shows.level; outer = shows.outer; rest = refl },
    )

pub returns-in-Member-clause-step : goal.returns-in-Member-clause-step
returns-in-Member-clause-step c now shows =
    let reading = c.in-Member.ensures ∙ shown_reading _ c.args.state now shows in (
      record { before = after.Member; level = with_member now.level; outer = now.outer; rest = chars c.in-Member.rest.now },
      ap (λ read. next_of read now.level now.outer) (sym reading),
      record { before = refl; level = c.with_member.ensures ∙ ap with_member shows.level; outer = shows.outer; rest = refl },
    )

pub returns-in_err-step-in-Opens-clause-beyond : goal.returns-in_err-step-in-Opens-clause-beyond
returns-in_err-step-in-Opens-clause-beyond c =
    let passed = err_from_is_err_and c.from_residual.result c.from_residual.ensures.1 in
    rw passed.1 (λ now shows.
    let reading = c.in-Opens.ensures ∙ shown_reading _ c.args.state now shows in (
      record {
        before = after.Opening;
        level = c.in-Opens.level;
        outer = with_group now.level now.outer ∷ now.outer;
        rest = chars c.in-Opens.rest.now;
      },
      ap (λ read. next_of read now.level now.outer) (sym reading),
      omega (arith, c.in_err-step-in-Opens.ensures.full, ap length shows.outer, levels_many now.outer),
    ))
