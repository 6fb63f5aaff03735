use Rattle.std.proofs.Common.{◌≡◌, ◌∙◌, [], ◌∷◌, ◌++◌, codes, take, string_bytes, true, refl, sym, ap, append_assoc, rules}
use Rattle.std.proofs.Output.{has_written_of_eq}
use Rattle.toml.proofs.Views.{Entry}
use Rattle.nextest_config_values.proofs.Joined.{separator_after, separator_more}
use Rattle.nextest_config_values.specs.Literal.Value.{array_text, member_text, table_text}
use Rattle.nextest_config_values.proofs.Literals.{more_written, next_taken, one_more_item, one_more_member, separator_of_items, separator_of_members, table_of, three_written}
use Rattle.nextest_config_values.proofs.literal.value.+write.Goals as goal

pub write_array-returns : goal.write_array-returns
write_array-returns g t c plain ok =
    let one = c.in_ok-write_str.ensures.writes plain (refl {a = true}) in
    let (text, two, (texts, are, is)) = c.in_ok-write_items.ensures one.plain (refl {a = true}) in
    let three = c.write_str-2.ensures.writes two.plain ok in
    (array_text texts, has_written_of_eq _ _ _ _ _ (ap (λ t. codes "[" ++ (t ++ codes "]")) is) (three_written one two three), (texts, are, refl))

pub write_items-loop-item-preserved : goal.write_items-loop-item-preserved
unfolding lib.Utf8.encode
write_items-loop-item-preserved g t c =
    let l = c.loop-item in
    let so_far = take l.item-index c.deref-item-items.result.now in
    let taken = next_taken c.deref-item-items.result.now l.item-index c.item-item.result c.loop-item-test.true c.item-item.is in (
      (44 ∷ 32 ∷ [], (refl, refl)),
      separator_more so_far c.item-item.result ∙ ap separator_after (sym taken),
      λ plain.
          let (texts, are, wrote) = l.invariant.2 plain in
          let before = c.in_ok-write_str.ensures.writes wrote.plain (refl {a = true}) in
          let (text, more, is) = c.in_ok-write_value.ensures before.plain (refl {a = true}) in
          (texts ++ text ∷ [], rw taken (one_more_item so_far c.item-item.result texts text are is), more_written texts (l.invariant.1 ∙ separator_of_items so_far texts are) wrote before more),
    )

pub write_members-loop-key-preserved : goal.write_members-loop-key-preserved
unfolding lib.Utf8.encode
write_members-loop-key-preserved g t c =
    let l = c.loop-key in
    let (done, split, separator, so_far) = l.invariant.1 in
    let e : Entry = (c.in-Some.key.now, c.in-Some.value.now) in
    let left = c.next.new.self in
    let named : c.as_str.result.now ≡ string_bytes e.0 = c.as_str.ensures.value in (
      (44 ∷ 32 ∷ [], (refl, refl)),
      (
        done ++ e ∷ [],
        split ∙ ap (λ es. done ++ es) c.in-Some.ensures.steps ∙ sym (append_assoc done (e ∷ []) left),
        separator_more done e,
        λ plain.
            let (texts, are, wrote) = so_far plain in
            let before = c.in_ok-write_str.ensures.writes wrote.plain (refl {a = true}) in
            let (text, more, (literal, is, made)) = c.in_ok-write_member.ensures before.plain (refl {a = true}) in
            (texts ++ text ∷ [], one_more_member done e texts text are (literal, is, made ∙ ap (λ key. member_text key literal) named), more_written texts (separator ∙ separator_of_members done texts are) wrote before more),
      ),
    )

pub write_member-returns : goal.write_member-returns
write_member-returns g t c plain ok =
    let one = c.in_ok-write_key.ensures plain (refl {a = true}) in
    let two = c.in_ok-write_str.ensures.writes one.plain (refl {a = true}) in
    let (literal, three, is) = c.write_value.ensures two.plain ok in
    (member_text c.args.key.now literal, three_written one two three, (literal, is, refl))

pub write_table-returns : goal.write_table-returns
write_table-returns g t c plain ok =
    let one = c.in_ok-write_str.ensures.writes plain (refl {a = true}) in
    let (text, two, (texts, are, is)) = c.in_ok-write_members.ensures one.plain (refl {a = true}) in
    let three = c.write_str-3.ensures.writes two.plain ok in
    (table_text texts, has_written_of_eq _ _ _ _ _ (ap (λ t. codes "{ " ++ (t ++ codes " }")) is ∙ table_of c.args.members.now.entries texts (search rules) are) (three_written one two three), (texts, are, refl))
