-- Texts that are cut after a run of characters of one kind.
use Rattle.std.proofs.Common.{◌≡◌, ℕ, Bool, true, List, [], ◌∷◌, ◌++◌, length, take, drop, Option, Some, None, MatchOption, refl, sym, ap, ◌∙◌, subst, rules, arith}
use Rattle.std.specs.Prelude.{chars, encode_utf8, not}
use Rattle.std.proofs.lemmas.List.{append-nil, drop_all, take-append-drop, take_all}
use Rattle.std.proofs.lemmas.Str.{IsUtf8-drop, IsUtf8-take, chars-append, chars-encodes, chars_from_encodes, chars_past_char}
use Rattle.std.specs.Option.{unwrap_or}
use Rattle.std.specs.Str.{IsUtf8, NoCharPasses, NonePass}
use Rattle.std.specs.Str.Pattern.{FindsBy, MatchBeginsAt}
use Rattle.nextest_config_values.specs.Duration.{AreAll, BeginsWith, IsCutAfter}

module _ (kind : ℕ → Bool) where
  none_pass : (cs : List ℕ) → NonePass (λ c. not (kind c)) cs → AreAll kind cs
  none_pass [] h = tt
  none_pass (c ∷ cs) h = (search rules, none_pass cs h.1)

  -- the run is over where a character ends it
  over_at : (back rest : List ℕ) (c : ℕ) → IsUtf8 back → not (kind c) ≡ true → back ≡ encode_utf8 c ++ rest → ¬ BeginsWith kind (chars back)
  over_at back rest c u passes e = rw (chars_past_char back rest c u e) (λ begins. search rules)

  cut_at : (text front back : List ℕ) → text ≡ front ++ back → IsUtf8 front → IsUtf8 back → NoCharPasses (λ c. not (kind c)) front → ¬ BeginsWith kind (chars back) → IsCutAfter kind text front back
  cut_at text front back e front_utf8 back_utf8 (cs, encoded, none) over = record {
    whole = e;
    characters = ap chars e ∙ chars-append front back front_utf8;
    is_run = record { inside = subst (AreAll kind) (chars_from_encodes cs front front_utf8 encoded) (none_pass cs none); over = over };
    run_utf8 = front_utf8;
    behind_utf8 = back_utf8;
  }

-- a text that is cut where `find` finds the first character that ends the run, or at its end
pub split_found : (Finds : (ℕ → Bool) → Type 0) (kind : ℕ → Bool) → Finds (λ c. not (kind c)) → (text : List ℕ) (found : Option ℕ) → IsUtf8 text
    → MatchOption found ((k : ℕ → Bool) → Finds k → FindsBy k text None) (MatchBeginsAt (λ s o. (k : ℕ → Bool) → Finds k → FindsBy k s o) text)
    → (end : ℕ) → end ≡ unwrap_or found (length text) → IsCutAfter kind text (take end text) (drop end text)
split_found Finds kind finds text None u h end e =
    rw (e, take_all (length text) text (omega arith), drop_all (length text) text (omega arith))
    (cut_at kind text text [] (sym (append-nil text)) u ([], (refl, refl)) (h _ finds) (rw (chars-encodes [] refl) (λ begins. begins)))
split_found Finds kind finds text (Some i) u (j, found, before, start, stop) end e =
    let parts = found _ finds in
    rw e (cut_at kind text (take i text) (drop i text) (sym (take-append-drop i text)) (IsUtf8-take text i u start) (IsUtf8-drop text i u start) parts.0
    (over_at kind (drop i text) (drop j text) parts.1.0 (IsUtf8-drop text i u start) parts.1.1 parts.1.2.split))
