-- What the grammar reads of a text, it reads of the text cut after it, and it leaves the text's end.
pub mod Lexical
pub mod Reads
pub mod Strings
pub mod Values
use Rattle.std.proofs.Common.{◌≡◌, ℕ, zero, suc, ◌<◌, ◌≤◌, Bool, true, false, cond, ◌==◌, List, [], ◌∷◌, ◌++◌, length, take, drop, Option, Some, None, refl, sym, ap, subst, ◌∙◌, inl, inr, arith, eqb-true, append-nil, append_assoc, length-append}
use Rattle.std.proofs.lemmas.Bool.{cases_Bool}
use Rattle.std.proofs.lemmas.List.{append_cancel_right, take-append-drop}
use Rattle.std.proofs.lemmas.Option.{none-some, same_Some}
use Rattle.toml_parser.specs.Lexical.{first, Read, skip_blank, skip_ws}
use Rattle.toml_parser.specs.Strings.{Key, key, key_after, simple_key}
use Rattle.toml.specs.Data.{Data, Items, Members}
use Rattle.toml.specs.Parse.{after_element, expression, header_key, items, key_equals, keyval, line, members, parse_value, skip_bom, val}
use Rattle.toml.specs.Tables.{Expression, Nodes}
use Rattle.toml_spans.proofs.Alone.Reads.{front_of}
use Rattle.toml_spans.proofs.Alone.Strings.{simple_key_alone}
use Rattle.toml_spans.proofs.Alone.Values.{TellsVal, val_alone, val_mark}

-- ---- what is read of a text alone

-- a text that is a value begins with no byte order mark
no_mark : (depth : ℕ) (text rest : List ℕ) (d : Data) → val depth text ≡ Some (d, rest) → skip_bom text ≡ text
unfolding skip_bom
no_mark depth [] rest d is = refl
no_mark depth (c ∷ text) rest d is = elim (cases_Bool (c == 0xEF)) [
  | inl mark ↦ absurd (none-some (d, rest) (sym (val_mark depth c text mark) ∙ is))
  | inr other ↦ rw other refl
]

-- what stands before the rest of a value is that value
whole_value : (text : List ℕ) (d : Data) → val 80 text ≡ Some (d, []) → parse_value text ≡ Some d
unfolding parse_value
whole_value text d is = rw (no_mark 80 text [] d is, is) refl

-- a value leaves the end of the text, and what stands before it is, alone, that value
pub value_alone : (depth : ℕ) (text rest : List ℕ) (d : Data) → depth ≤ 80 → val depth text ≡ Some (d, rest) → (front : List ℕ) × (text ≡ front ++ rest) × (parse_value front ≡ Some d)
value_alone depth text rest d within is =
    let (front, whole, on) = front_of d rest (val_alone depth text) is in
    let here : TellsVal depth front d [] = subst (λ (t : List ℕ). TellsVal depth t d []) (append-nil front) (on [] rest refl) in
    (front, whole, whole_value front d (here.told 80 within))

-- a part of a key that is a text alone is a key
one_part : (text key_text : List ℕ) → simple_key text ≡ Some (key_text, []) → key text ≡ Some (([], key_text), [])
unfolding key_after skip_ws
one_part text key_text is = rw is refl

-- a part of a key leaves the end of the text, and what stands before it is, alone, that key
pub part_alone : (text rest key_text : List ℕ) → simple_key text ≡ Some (key_text, rest) → (front : List ℕ) × (text ≡ front ++ rest) × (key front ≡ Some (([], key_text), []))
part_alone text rest key_text is =
    let (front, whole, on) = front_of key_text rest (simple_key_alone text) is in
    (front, whole, one_part front key_text (ap simple_key (sym (append-nil front)) ∙ (on [] rest refl).told))
