-- What is read of two lists, as what is read of both in a row.
use Rattle.std.proofs.Common.{◌≡◌, ℕ, ◌+◌, ◌<◌, List, [], ◌∷◌, ◌++◌, length, length-append, take, drop, map, refl, sym, ap, ap₂, ◌∙◌, subst, append_assoc, arith, get_or, Result, Ok, Err, IfErr}
use Rattle.std.proofs.lemmas.List.{drop_more, length-take, map-append, take-append-drop, take_more}
use Rattle.std.specs.List.{AllZip}
use Rattle.nextest_config.specs.Merge.{HavePieces, IsFirstWrong, IsJoinOfPieces, IsMonoid, IsReadingOne, IsRefusalOfOne, IsRefusalOfPieces, shifted, total}
use Rattle.nextest_config.specs.declared.merge.PieceRefusal.{PieceRefusal}
use Rattle.nextest_config.specs.declared.merge.PieceRefusal.TheVariants as refusals
use Rattle.nextest_config.proofs.Lists.{zip_around, zip_joined, zip_middle}

-- the join of lists in a row
pub total_joined : {X : Type 0} (join : X → X → X) (neutral : X) → IsMonoid join neutral → (xs ys : List X) → total join neutral (xs ++ ys) ≡ join (total join neutral xs) (total join neutral ys)
total_joined join neutral laws [] ys = sym (laws.neutral_first (total join neutral ys))
total_joined join neutral laws (x ∷ xs) ys = ap (join x) (total_joined join neutral laws xs ys) ∙ sym (laws.associative x (total join neutral xs) (total join neutral ys))

module _ {Source Piece Seen : Type 0} (join : Seen → Seen → Seen) (neutral : Seen) (seen : Piece → Seen) (piece : Source → Piece → Type 0) (laws : IsMonoid join neutral) where
  pub of_one : (source : Source) (a : Piece) → piece source a → IsJoinOfPieces join neutral seen piece (source ∷ []) (seen a)
  of_one source a read = (a ∷ [], (read, tt), sym (laws.neutral_last (seen a)))

  -- the join of both is that of the pieces of both lists in a row
  pub of_both : (xs ys : List Source) (first second joined : Seen) → IsJoinOfPieces join neutral seen piece xs first → IsJoinOfPieces join neutral seen piece ys second → joined ≡ join first (total join neutral (second ∷ []))
      → IsJoinOfPieces join neutral seen piece (xs ++ ys) joined
  of_both xs ys first second joined (us, read, is) (vs, more_read, more) joins =
      let parts = total_joined join neutral laws (map seen us) (map seen vs) in
      (us ++ vs, zip_joined piece xs us ys vs read more_read, joins ∙ ap (join first) (laws.neutral_last second) ∙ ap₂ join is more ∙ sym parts ∙ ap (total join neutral) (sym (map-append seen us vs)))

  -- the join of the sources so far with the piece of the next one
  pub one_more : (sources : List Source) (i : ℕ) (source : Source) (a : Piece) (so_far joined : Seen) → i < length sources → source ≡ get_or sources i source
      → IsJoinOfPieces join neutral seen piece (take i sources) so_far → piece source a → joined ≡ join so_far (seen a) → IsJoinOfPieces join neutral seen piece (take (i + 1) sources) joined
  one_more sources i source a so_far joined within here read more joins =
      rw (take_more sources i source within, ← here) (of_both (take i sources) (source ∷ []) so_far (seen a) joined read (of_one source a more) (joins ∙ ap (join so_far) (sym (laws.neutral_last (seen a)))))

module _ {Source Piece Told : Type 0} (piece : Source → Piece → Type 0) (wrong : Source → Told → Type 0) where
  pub wrong_in_first : (xs ys : List Source) (position : ℕ) (error : Told) → IsFirstWrong piece wrong xs position error → IsFirstWrong piece wrong (xs ++ ys) position error
  wrong_in_first xs ys position error first = record {
    before = first.before;
    source = first.source;
    after = first.after ++ ys;
    whole = ap (λ zs. zs ++ ys) first.whole ∙ append_assoc first.before (first.source ∷ first.after) ys;
    place = first.place;
    read = first.read;
    refused = first.refused;
  }

  pub wrong_in_second : (xs ys : List Source) (position : ℕ) (error : Told) → HavePieces piece xs → IsFirstWrong piece wrong ys position error → IsFirstWrong piece wrong (xs ++ ys) (length xs + position) error
  wrong_in_second xs ys position error (us, read) first = record {
    before = xs ++ first.before;
    source = first.source;
    after = first.after;
    whole = ap (λ zs. xs ++ zs) first.whole ∙ sym (append_assoc xs first.before (first.source ∷ first.after));
    place = length-append xs first.before ∙ ap (λ n. length xs + n) first.place;
    read = (us ++ first.read.0, zip_joined piece xs us first.before first.read.0 read first.read.1);
    refused = first.refused;
  }

  -- the position is one of the list
  pub within : (sources : List Source) (position : ℕ) (error : Told) → IsFirstWrong piece wrong sources position error → position < length sources
  within sources position error first = omega (arith, first.place, ap length first.whole, length-append first.before (first.source ∷ first.after))

-- where every source has a piece, none is refused
pub none_wrong : {Source Piece Seen Told : Type 0} (seen : Piece → Seen) (piece : Source → Piece → Type 0) (wrong : Source → Told → Type 0) → IsReadingOne seen piece wrong
    → (sources : List Source) (position : ℕ) (error : Told) → HavePieces piece sources → IsFirstWrong piece wrong sources position error → ⊥
none_wrong seen piece wrong laws sources position error (pieces, read) first =
    let found = zip_middle piece first.before first.source first.after pieces (subst (λ xs. AllZip piece xs pieces) first.whole read) in
    laws.never_both first.source found.0 error found.1 first.refused

module _ {Source Piece Error Told : Type 0} (told : Error → Told) (piece : Source → Piece → Type 0) (wrong : Source → Told → Type 0) where
  pub refused_in_first : (xs ys : List Source) (r : PieceRefusal Error) → IsRefusalOfPieces told piece wrong xs r → IsRefusalOfPieces told piece wrong (xs ++ ys) r
  refused_in_first xs ys (refusals.Refused position error) first = wrong_in_first piece wrong xs ys position (told error) first
  refused_in_first xs ys refusals.Memory first = tt

  pub refused_in_second : (xs ys : List Source) (r : PieceRefusal Error) → HavePieces piece xs → IsRefusalOfPieces told piece wrong ys r → IsRefusalOfPieces told piece wrong (xs ++ ys) (shifted (length xs) r)
  refused_in_second xs ys (refusals.Refused position error) read first = wrong_in_second piece wrong xs ys position (told error) read first
  refused_in_second xs ys refusals.Memory read first = tt

  -- the sources so far are read, and the next one is refused
  pub refused_next : (sources : List Source) (i : ℕ) (source : Source) (r : PieceRefusal Error) → i < length sources → source ≡ get_or sources i source
      → HavePieces piece (take i sources) → IsRefusalOfOne told wrong source r → IsRefusalOfPieces told piece wrong sources (shifted i r)
  refused_next sources i source (refusals.Refused position error) within here read refused = record {
    before = take i sources;
    source = source;
    after = drop (i + 1) sources;
    whole = sym (take-append-drop i sources) ∙ ap (λ rest. take i sources ++ rest) (rw (drop_more sources i source within, ← here) refl);
    place = omega (arith, length-take i sources, refused.0);
    read = read;
    refused = refused.1;
  }
  refused_next sources i source refusals.Memory within here read refused = tt

  -- where every source has a piece, only memory can be wanting
  pub only_memory : {Seen : Type 0} (seen : Piece → Seen) → IsReadingOne seen piece wrong → (sources : List Source) {X : Type 0} (result : Result X (PieceRefusal Error)) → HavePieces piece sources → IfErr result (IsRefusalOfPieces told piece wrong sources)
      → IfErr result (λ refusal. refusal ≡ refusals.Memory)
  only_memory seen laws sources (Ok x) read first = tt
  only_memory seen laws sources (Err (refusals.Refused position error)) read first = absurd (none_wrong seen piece wrong laws sources position (told error) read first)
  only_memory seen laws sources (Err refusals.Memory) read first = refl

-- ---- what is read of sources, as what is read of others that are the same

module _ {Source Other Piece : Type 0} (AreSame : Other → Source → Type 0) (piece : Source → Piece → Type 0) (other_piece : Other → Piece → Type 0) (same_piece : (other : Other) (source : Source) (a : Piece) → AreSame other source → piece source a → other_piece other a) where
  pub same_pieces : (others : List Other) (sources : List Source) (pieces : List Piece) → AllZip AreSame others sources → AllZip piece sources pieces → AllZip other_piece others pieces
  same_pieces [] [] pieces same read = read
  same_pieces [] (source ∷ sources) pieces same read = absurd same
  same_pieces (other ∷ others) [] pieces same read = absurd same
  same_pieces (other ∷ others) (source ∷ sources) [] same read = absurd read
  same_pieces (other ∷ others) (source ∷ sources) (a ∷ pieces) same read = (same_piece other source a same.0 read.0, same_pieces others sources pieces same.1 read.1)

  pub same_join : {Seen : Type 0} (join : Seen → Seen → Seen) (neutral : Seen) (seen : Piece → Seen) (others : List Other) (sources : List Source) (joined : Seen) → AllZip AreSame others sources
      → IsJoinOfPieces join neutral seen piece sources joined → IsJoinOfPieces join neutral seen other_piece others joined
  same_join join neutral seen others sources joined same (pieces, read, is) = (pieces, same_pieces others sources pieces same read, is)

  pub same_refusal : {Error Told : Type 0} (told : Error → Told) (wrong : Source → Told → Type 0) (other_wrong : Other → Told → Type 0)
      → ((other : Other) (source : Source) (error : Told) → AreSame other source → wrong source error → other_wrong other error)
      → (others : List Other) (sources : List Source) (r : PieceRefusal Error) → AllZip AreSame others sources
      → IsRefusalOfPieces told piece wrong sources r → IsRefusalOfPieces told other_piece other_wrong others r
  same_refusal told wrong other_wrong same_wrong others sources (refusals.Refused position error) same first =
      let found = zip_around AreSame others first.before first.source first.after (subst (λ xs. AllZip AreSame others xs) first.whole same) in
      record {
        before = found.front;
        source = found.x;
        after = found.back;
        whole = found.whole;
        place = found.long ∙ first.place;
        read = (first.read.0, same_pieces found.front first.before first.read.0 found.of_front first.read.1);
        refused = same_wrong found.x first.source (told error) found.of_one first.refused;
      }
  same_refusal told wrong other_wrong same_wrong others sources refusals.Memory same first = tt
