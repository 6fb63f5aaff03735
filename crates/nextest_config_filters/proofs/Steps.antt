-- Ways of steps from state to state.
use Rattle.std.proofs.Common.{◌≡◌, Option, Some, None, refl, sym, ap, ◌∙◌, subst}
use Rattle.nextest_config_filters.specs.Steps.{IsWalked, Leads, stays, steps}

module _ {S : Type 0} (next : S → Option S) where
  -- one step more
  pub leads_on : (from to over : S) → Leads next from to → next to ≡ Some over → Leads next from over
  leads_on from to over (stays s) onwards = steps from over over onwards (stays over)
  leads_on from to over (steps f t u one more) onwards = steps from t over one (leads_on t to over more onwards)

  -- two ways from one state to where no step leads on end in the same
  pub one_end : (from a b : S) → Leads next from a → next a ≡ None → Leads next from b → next b ≡ None → a ≡ b
  one_end from a b (stays s) a_over (stays t) b_over = refl
  one_end from a b (stays s) a_over (steps f t u one more) b_over = cc (one, a_over)
  one_end from a b (steps f t u one more) a_over (stays s) b_over = cc (one, b_over)
  one_end from a b (steps f t u one more) a_over (steps g v w first others) b_over =
      let same : t ≡ v = cc (one, first) in
      one_end t a b more a_over (subst (λ s. Leads next s b) (sym same) others) b_over

  -- what every step keeps is kept
  pub kept_on : (P : S → Type 0) → ((state over : S) → P state → next state ≡ Some over → P over)
      → (from to : S) → Leads next from to → P from → P to
  kept_on P keeps from to (stays s) holds = holds
  kept_on P keeps from to (steps f t u one more) holds = kept_on P keeps t to more (keeps from t holds one)

  module _ {X : Type 0} (found_at : S → X) where
    pub walked_once : (from : S) (a b : X) → IsWalked next found_at from a → IsWalked next found_at from b → a ≡ b
    walked_once from a b one other =
        sym one.finds ∙ ap found_at (one_end from one.state other.state one.leads one.over other.leads other.over) ∙ other.finds

    module _ (found : X) where
      on_leads : (from to over : S) → Leads next from to → next to ≡ None → found_at to ≡ found → next from ≡ Some over
          → IsWalked next found_at over found
      on_leads from to over (stays s) stops finds on = cc (stops, on)
      on_leads from to over (steps f t u one more) stops finds on =
          let same : t ≡ over = cc (one, on) in
          record { state = u; leads = subst (λ s. Leads next s u) same more; over = stops; finds = finds }

      -- it is found behind the next state
      pub onwards : (from over : S) → next from ≡ Some over → IsWalked next found_at from found
          → IsWalked next found_at over found
      onwards from over on is = on_leads from is.state over is.leads is.over is.finds on

      off_leads : (from to : S) → Leads next from to → found_at to ≡ found → next from ≡ None → found_at from ≡ found
      off_leads from to (stays s) finds stops = finds
      off_leads from to (steps f t u one more) finds stops = cc (one, stops)

      -- or there, where no step leads on
      pub stuck : (from : S) → next from ≡ None → IsWalked next found_at from found → found_at from ≡ found
      stuck from stops is = off_leads from is.state is.leads is.finds stops

      alike_leads : (from to other : S) → next from ≡ next other → found_at from ≡ found_at other → Leads next from to
          → next to ≡ None → found_at to ≡ found → IsWalked next found_at other found
      alike_leads from to other same alike (stays s) stops finds =
          record { state = other; leads = stays other; over = sym same ∙ stops; finds = sym alike ∙ finds }
      alike_leads from to other same alike (steps f t u one more) stops finds =
          record { state = u; leads = steps other t u (sym same ∙ one) more; over = stops; finds = finds }

      -- of two states that go on alike
      pub alike : (from other : S) → next from ≡ next other → found_at from ≡ found_at other
          → IsWalked next found_at from found → IsWalked next found_at other found
      alike from other same there is = alike_leads from is.state other same there is.leads is.over is.finds
