-- Values that are written, item by item and member by member.
use Rattle.std.proofs.Common.{◌≡◌, ◌∙◌, ℕ, ◌<◌, ◌+◌, ◌==◌, false, List, [], ◌∷◌, ◌++◌, length, take, get_or, codes, map-id, string_bytes, refl, sym, ap, rules}
use Rattle.std.proofs.lemmas.Bool.{true≢false}
use Rattle.std.proofs.lemmas.List.{take_more}
use Rattle.std.proofs.Output.{has_written_append, has_written_of_eq}
use Rattle.std.specs.declared.fmt.Formatter.{Formatter}
use Rattle.std.specs.Fmt.{HasWritten}
use Rattle.toml.proofs.Views.{Entry}
use Rattle.toml.specs.View.{items_view, members_view, view}
use Rattle.toml.specs.declared.value.Value.{Value}
use Rattle.nextest_config_values.proofs.Joined.{joined_more, separator_after}
use Rattle.nextest_config_values.specs.Read.{comma_list}
use Rattle.nextest_config_values.specs.Literal.Value.{AreItems, AreMembers, IsLiteral, member_text, table_text}

-- one more of the items that come
pub next_taken : {X : Type 0} (xs : List X) (i : ℕ) (x : X) → i < length xs → x ≡ get_or xs i x → take (i + 1) xs ≡ take i xs ++ x ∷ []
next_taken xs i x within is = take_more xs i x within ∙ ap (λ y. take i xs ++ y ∷ []) (sym is)

pub one_more_item : (values : List Value) (value : Value) (texts : List (List ℕ)) (text : List ℕ) → AreItems (items_view values) texts → IsLiteral (view value) text
    → AreItems (items_view (values ++ value ∷ [])) (texts ++ text ∷ [])
one_more_item [] value texts text none is = (text, [], ap (λ all. all ++ text ∷ []) none, is, refl)
one_more_item (first ∷ rest) value texts text are is =
    (are.0, are.1 ++ text ∷ [], ap (λ all. all ++ text ∷ []) are.2, are.3, one_more_item rest value are.1 text are.4 is)

pub one_more_member : (entries : List Entry) (entry : Entry) (texts : List (List ℕ)) (text : List ℕ) → AreMembers (members_view entries) texts
    → (literal : List ℕ) × IsLiteral (view entry.1) literal × (text ≡ member_text (string_bytes entry.0) literal)
    → AreMembers (members_view (entries ++ entry ∷ [])) (texts ++ text ∷ [])
one_more_member [] entry texts text none one = (one.0, [], ap (λ all. all ++ text ∷ []) none ∙ ap (λ t. t ∷ []) one.2, one.1, refl)
one_more_member (first ∷ rest) entry texts text are one =
    (are.0, are.1 ++ text ∷ [], ap (λ all. all ++ text ∷ []) are.2, are.3, one_more_member rest entry are.1 text are.4 one)

-- what stands before the next item, and before the next member
pub separator_of_items : (values : List Value) (texts : List (List ℕ)) → AreItems (items_view values) texts → separator_after values ≡ separator_after texts
separator_of_items values texts none = search rules

pub separator_of_members : (entries : List Entry) (texts : List (List ℕ)) → AreMembers (members_view entries) texts → separator_after entries ≡ separator_after texts
separator_of_members entries texts none = search rules

-- members that there are stand between braces with blanks
pub table_of : (entries : List Entry) (texts : List (List ℕ)) → (length entries == 0) ≡ false → AreMembers (members_view entries) texts
    → codes "{ " ++ (comma_list texts ++ codes " }") ≡ table_text texts
table_of [] texts some are = absurd (true≢false some)
table_of (entry ∷ entries) texts some are = rw are.2 refl

joined : (texts : List (List ℕ)) (text : List ℕ) → comma_list texts ++ (separator_after texts ++ text) ≡ comma_list (texts ++ text ∷ [])
joined texts text =
    ap (λ all. comma_list all ++ (separator_after texts ++ text)) (sym (map-id texts))
    ∙ sym (joined_more (λ t. t) texts text)
    ∙ ap comma_list (map-id (texts ++ text ∷ []))

module _ {W : Type 0} {took : W → List ℕ → W → Type 0} {f g h k : Formatter W} where
  -- three writes in turn
  pub three_written : {a b c : List ℕ} → HasWritten took f a g → HasWritten took g b h → HasWritten took h c k → HasWritten took f (a ++ (b ++ c)) k
  three_written one two three = has_written_append took f _ g _ k one (has_written_append took g _ h _ k two three)

  -- one more text, after what stands before it
  pub more_written : (texts : List (List ℕ)) {separator text : List ℕ} → separator ≡ separator_after texts → HasWritten took f (comma_list texts) g
      → HasWritten took g separator h → HasWritten took h text k → HasWritten took f (comma_list (texts ++ text ∷ [])) k
  more_written texts {text = text} is so_far before more =
      has_written_of_eq took f _ _ k (ap (λ s. comma_list texts ++ (s ++ text)) is ∙ joined texts text) (three_written so_far before more)
