use Rattle.std.proofs.Common.{◌∷◌, [], map, subst, sym, take, ⊎_elim, inl, inr}
use Rattle.std.proofs.lemmas.List.{map_push, take_all, take_more}
use Rattle.nextest_config_profiles.specs.Profiles.{HasName, HasProfile}
use Rattle.nextest_config_profiles.specs.Reach.{lent}
use Rattle.nextest_config_profiles.proofs.Names.{some_joined, some_left, some_of_one, some_right}
use Rattle.nextest_config_profiles.proofs.profiles.name_set.Goals as goal

pub loop-file-init : goal.loop-file-init
loop-file-init c name =
    let first = c.in_ok-add_profiles.ensures name in (
      λ has. ⊎_elim (λ none. absurd (subst (λ keys. HasName keys name) c.new-names.ensures.empty none)) inl (first.0 has),
      λ some. first.1 (inr (some_of_one (HasProfile name) (lent c.args.layers.defaults) some)),
    )

pub loop-file-preserved : goal.loop-file-preserved
loop-file-preserved c name =
    let files = c.args.layers.files.now in
    let i = c.loop-file.file-index in
    let P = HasProfile name in
    let so_far = c.loop-file.invariant name in
    let more = c.in_ok-add_profiles-2.ensures name in
    let so_many = lent c.args.layers.defaults ∷ map lent (take i files) in
    let last = lent c.file-item.result ∷ [] in
    rw (take_more files i c.file-item.result c.loop-file-test.true, ← c.file-item.is, map_push lent (take i files) c.file-item.result) (
      λ has. ⊎_elim (λ old. some_left P so_many last (so_far.0 old)) (λ new. some_right P so_many last (inl new)) (more.0 has),
      λ some. more.1 (⊎_elim (λ old. inl (so_far.1 old)) (λ new. inr (some_of_one P (lent c.file-item.result) new)) (some_joined P so_many last some)),
    )

pub returns : goal.returns
returns c name =
    let so_far = rw (take_all c.loop-file.file-index c.args.layers.files.now c.loop-file-test.false) at (c.loop-file.invariant name) in
    let first = c.in_ok-add_name.ensures name in
    let second = c.in_ok-add_name-2.ensures name in (
      λ has. ⊎_elim (λ old. ⊎_elim (λ there. inr (inr (so_far.0 there))) (λ is. inl (sym is)) (first.0 old)) (λ is. inr (inl (sym is))) (second.0 has),
      λ is_profile. ⊎_elim (λ is. second.1 (inl (first.1 (inr (sym is))))) (⊎_elim (λ is. second.1 (inr (sym is))) (λ there. second.1 (inl (first.1 (inl (so_far.1 there)))))) is_profile,
    )
