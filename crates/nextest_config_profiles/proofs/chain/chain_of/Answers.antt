use Rattle.std.proofs.Common.{◌≡◌, ◌≢◌, ⊎_elim, ◌∷◌, ◌++◌, [], append_assoc, ap, inl, inr, refl, rules, subst, sym, ◌∙◌}
use Rattle.std.proofs.lemmas.Bool.{cases_Bool, false≢true}
use Rattle.nextest_config_values.proofs.Faults.{passed_on}
use Rattle.nextest_config_profiles.specs.Chain.{IsChain, IsChainFault, IsWay}
use Rattle.nextest_config_profiles.specs.Profiles.{default_profile, HasName, SomeOf}
use Rattle.nextest_config_profiles.specs.Reach.{layers_of, words_of}
use Rattle.nextest_config_profiles.proofs.Names.{left_name, not_found, some_left, some_right}
use Rattle.nextest_config_profiles.proofs.Members.{is_key, key_itself, one_key}
use Rattle.nextest_config_profiles.proofs.Ways.{among, chain_from, leads_on, next_is_wrong, next_profile_is, told_apart, way_end, way_more}
use Rattle.nextest_config_profiles.proofs.chain.chain_of.Goals as goal

pub loop-current-init : goal.loop-current-init
loop-current-init c =
    let none : words_of c.new-chain.result.items ≡ [] = ap words_of c.new-chain.ensures.items in
    rw none (λ rest chain. chain, tt, ([], refl), c.is_profile.ensures.0 c.if-not-is_profile.false, λ name is. inl ((c.in_ok-left.ensures name).1 is), c.utf8.name)

pub returns-then-not-remove-clause-fault : goal.returns-then-not-remove-clause-fault
returns-then-not-remove-clause-fault c =
    let (goes_on, way, starts, is_profile, left, utf8) = c.loop-current.invariant in
    let layers = layers_of c.args.layers in
    let current = c.loop-current.current.now in
    let chain = words_of c.loop-current.chain.items in
    let some : SomeOf (λ other. other ≡ current) chain = ⊎_elim (λ has. absurd (not_found current c.loop-current.left.keys (sym c.remove.ensures.test ∙ c.if-not-remove.true) has)) (λ some. some) (left current is_profile) in
    let found = among current chain some in
    let round = subst (λ names. IsWay layers (names ++ current ∷ [])) found.whole way in (
      leads_on layers chain c.args.name.now current starts.0 way starts.1,
      record { between = found.after; way = way_end layers found.before current (found.after ++ current ∷ []) (subst (IsWay layers) (append_assoc found.before (current ∷ found.after) (current ∷ [])) round) },
    )

pub returns-in_err-current-clause-fault : goal.returns-in_err-current-clause-fault
returns-in_err-current-clause-fault c =
    let (goes_on, way, starts, is_profile, left, utf8) = c.loop-current.invariant in
    let layers = layers_of c.args.layers in
    let name = c.args.name.now in
    let current = c.loop-current.current.now in
    let leads = leads_on layers (words_of c.loop-current.chain.items) name current starts.0 way starts.1 in
    let other : current ≢ default_profile = told_apart current default_profile c.ne.result c.ne.ensures c.loop-current-test.true in
    passed_on (IsChainFault layers name) c.from_residual-in_err-current.result c.in_err-current.field-0.0 c.from_residual-in_err-current.ensures.1
    (next_is_wrong layers name current c.in_err-current.field-0.0 (leads, other) c.in_err-current.ensures.fault)

pub loop-current-preserved : goal.loop-current-preserved
loop-current-preserved c =
    let (goes_on, way, starts, is_profile, left, utf8) = c.loop-current.invariant in
    let layers = layers_of c.args.layers in
    let name = c.args.name.now in
    let current = c.loop-current.current.now in
    let next = c.in_ok-current.current.now in
    let chain = words_of c.loop-current.chain.items in
    let other : current ≢ default_profile = told_apart current default_profile c.ne.result c.ne.ensures c.loop-current-test.true in
    let is_next = c.in_ok-current.ensures.next in
    rw c.in_ok-push.ensures (
      λ rest later. subst (IsChain layers name) (sym (append_assoc chain (current ∷ []) rest)) (goes_on (current ∷ rest) (chain_from layers current next rest is_profile other is_next later)),
      subst (IsWay layers) (sym (append_assoc chain (current ∷ []) (next ∷ []))) (way_more layers chain current next way other is_next),
      (starts.0 ++ next ∷ [], ap (λ names. names ++ next ∷ []) starts.1),
      next_profile_is layers current next is_next,
      λ other_name is. elim (cases_Bool (is_key current other_name)) [
        | inl same ↦ inr (some_right (λ found. found ≡ other_name) chain (current ∷ []) (inl (one_key current other_name same)))
        | inr apart ↦ ⊎_elim
            (λ has. inl (subst (λ keys. HasName keys other_name) (sym c.remove.ensures.keys) (left_name current other_name (λ one. false≢true (sym apart ∙ ap (is_key current) (sym one) ∙ key_itself current)) c.loop-current.left.keys has)))
            (λ some. inr (some_left (λ found. found ≡ other_name) chain (current ∷ []) some))
            (left other_name is)
      ],
      search rules,
    )
