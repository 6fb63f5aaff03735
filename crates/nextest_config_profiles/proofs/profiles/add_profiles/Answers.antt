use Rattle.std.proofs.Common.{◌≡◌, ◌∷◌, [], Bor, String, Global, map, IsSome, option_and_then, option_map, string_bytes, subst, sym, ◌∙◌, ⊎_elim, inl, inr, ap}
use Rattle.std.proofs.lemmas.Map.Iter.{iter_end}
use Rattle.std.specs.BTreeMap.{keys}
use Rattle.std.specs.Map.Iter.{deref}
use Rattle.toml.specs.Data.{get_member}
use Rattle.toml.specs.View.{table_view}
use Rattle.nextest_config_profiles.specs.Profiles.{HasProfile, SomeOf}
use Rattle.nextest_config_profiles.specs.Reach.{lent}
use Rattle.nextest_config_profiles.proofs.Names.{has_key, key_has, mapped_some, some_joined, some_left, some_mapped, some_of_one, some_right}
use Rattle.nextest_config_profiles.proofs.profiles.add_profiles.Goals as goal

pub loop-name-preserved : goal.loop-name-preserved
loop-name-preserved c name =
    let yielded = c.loop-name.yielded in
    let new = c.in-Some-name.name in
    let IsNew : Bor (String Global) → Type 0 = λ key. string_bytes key.now ≡ name in
    let more = c.in_ok-add_name.ensures name in
    let so_far = c.loop-name.invariant name in (
      λ has. ⊎_elim (λ old. ⊎_elim inl (λ some. inr (some_left IsNew yielded (new ∷ []) some)) (so_far.0 old))
          (λ is. inr (some_right IsNew yielded (new ∷ []) (inl (sym c.as_str.ensures.value ∙ is))))
          (more.0 has),
      λ has. more.1 (⊎_elim (λ before. inl (so_far.1 (inl before)))
          (λ some. ⊎_elim (λ old. inl (so_far.1 (inr old))) (λ is. inr (c.as_str.ensures.value ∙ some_of_one IsNew new is)) (some_joined IsNew yielded (new ∷ []) some))
          has),
    )

pub returns : goal.returns
returns c name =
    let table = c.in-Some.profiles.now in
    let IsName : String Global → Type 0 = λ key. string_bytes key ≡ name in
    let ended : map deref c.loop-name.yielded ≡ keys table = (iter_end deref (keys table) c.loop-name.yielded _ _ _ _ (c.into_iter-name-iterator.ensures.into_iter_gives ∙ c.keys-name-items.ensures.rest) c.loop-name.yielded_by c.in-None.is c.next.ensures.steps).0 in
    let so_far = c.loop-name.invariant name in
    let named : HasProfile name (lent c.args.layer) ≡ IsSome (get_member name (table_view table)) =
    ap (λ found. IsSome (option_and_then (get_member name) found)) (sym c.profiles_of.ensures ∙ ap (option_map (λ found. table_view found.now)) c.in-Some.is) in (
      λ has. ⊎_elim inl (λ some. inr (subst (λ T. T) (sym named) (key_has table.entries name (subst (SomeOf IsName) ended (some_mapped IsName deref c.loop-name.yielded some))))) (so_far.0 has),
      λ has. so_far.1 (⊎_elim inl (λ there. inr (mapped_some IsName deref c.loop-name.yielded (subst (SomeOf IsName) (sym ended) (has_key table.entries name (subst (λ T. T) named there))))) has),
    )
