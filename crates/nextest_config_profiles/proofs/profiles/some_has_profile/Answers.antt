use Rattle.std.proofs.Common.{◌+◌, ◌∷◌, [], map, refl, take, ⊎_elim, inl}
use Rattle.std.proofs.lemmas.List.{map_push, take_more}
use Rattle.nextest_config_profiles.specs.Profiles.{HasProfile}
use Rattle.nextest_config_profiles.specs.Reach.{lent}
use Rattle.nextest_config_profiles.proofs.Names.{some_joined, some_mapped, some_of_one, some_right, some_within}
use Rattle.nextest_config_profiles.proofs.profiles.some_has_profile.Goals as goal

pub returns-then-has_profile : goal.returns-then-has_profile
returns-then-has_profile c =
    let files = c.args.files.now in
    let i = c.loop-file.file-index in
    let P = HasProfile c.args.name.now in
    let here : P (lent c.file-item.result) = c.has_profile.ensures.0 c.if-has_profile.true in
    let there = some_within (λ file. P (lent file)) files (i + 1)
    (rw (take_more files i c.file-item.result c.loop-file-test.true, ← c.file-item.is) (some_right (λ file. P (lent file)) (take i files) (c.file-item.result ∷ []) (inl here))) in
    (λ _. some_mapped P lent files there, λ _. refl)

pub loop-file-preserved : goal.loop-file-preserved
loop-file-preserved c =
    let files = c.args.files.now in
    let i = c.loop-file.file-index in
    let P = HasProfile c.args.name.now in
    rw (take_more files i c.file-item.result c.loop-file-test.true, ← c.file-item.is, map_push lent (take i files) c.file-item.result)
    (λ some. ⊎_elim c.loop-file.invariant
    (λ last. absurd (cc (c.has_profile.ensures.1 (some_of_one P (lent c.file-item.result) last), c.if-has_profile.false)))
    (some_joined P (map lent (take i files)) (lent c.file-item.result ∷ []) some))
