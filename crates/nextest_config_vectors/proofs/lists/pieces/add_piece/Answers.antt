use Rattle.std.proofs.Common.{◌≡◌, ◌+◌, ◌<◌, ◌≤◌, ℕ, List, [], ◌∷◌, length, length-append, map, take, Some, refl, sym, ap, subst, ◌∙◌, arith}
use Rattle.std.specs.List.{AllByRecursion}
use Rattle.nextest_config.specs.NextestVersion.{source_under, configuration_of, Configuration, IsFirstRefused, IsFirstRefusedAmong, IsJoinOf, IsRefusalOf, join_configurations, neutral_seen, Reads, Refusal, refusal_of, seen_configuration, SeenConfiguration}
use Rattle.nextest_config.specs.NextestVersion.Source.{Source}
use Rattle.nextest_config.specs.declared.nextest_version.error.ConfigParseError.{ConfigParseError}
use Rattle.nextest_config.specs.declared.merge.PieceRefusal.{PieceRefusal}
use Rattle.nextest_config.specs.declared.merge.PieceRefusal.TheVariants.{Refused}
use Rattle.nextest_config_vectors.proofs.Parted.{behind, cut_to, cut_whole, front, front_long, piece, piece_long}
use Rattle.nextest_config_vectors.proofs.lists.pieces.add_piece.Goals as goal

-- a refused position stands within its list
within_list : (sources : List Source) (position : ℕ) (refusal : Refusal) → IsFirstRefused sources position refusal → position < length sources
within_list sources position refusal first = omega (arith, first.place, ap length first.whole, length-append first.before (first.source ∷ first.after))

-- what a refusal at a position says
refused_at : (sources : List Source) (told : PieceRefusal ConfigParseError) (position : ℕ) (error : ConfigParseError) → told ≡ Refused position error → IsRefusalOf sources told → (refusal : Refusal) × (refusal_of error ≡ Some refusal) × IsFirstRefused sources position refusal
refused_at sources told position error is refused = subst (IsRefusalOf sources) is refused

pub returns-in-Ok-merge-clause-stands : goal.returns-in-Ok-merge-clause-stands
returns-in-Ok-merge-clause-stands c =
    let f = source_under c.args.edition in
    let xs = c.args.sources.now in
    let old : Configuration = configuration_of c.args.whole.now in
    let more : Configuration = configuration_of c.in-Ok.piece in
    let new : Configuration = configuration_of c.merge.new.self in
    let joined : seen_configuration new ≡ join_configurations (seen_configuration old) (join_configurations (seen_configuration more) neutral_seen) =
    c.in-Ok-merge.ensures.joined ∙ ap (join_configurations (seen_configuration old)) (sym (c.law_join.ensures.configurations.neutral_last (seen_configuration more))) in
    let is : IsJoinOf (old ∷ more ∷ []) new = record {
      roles = ap (λ (seen : SeenConfiguration). seen.roles) joined;
      experimental = record { same = ap (λ (seen : SeenConfiguration). seen.experimental) joined; in_order = c.law_known_in_order.ensures c.merge.new.self };
    } in
    let pieces = front f xs c.args.from c.args.to c.requires.in_order ∷ piece f xs c.args.from c.args.to c.requires.in_order ∷ [] in
    (c.law_cut.ensures.stands (map f (take c.args.to xs)) pieces (old ∷ more ∷ []) new (cut_to f xs c.args.from c.args.to c.requires.in_order) (c.requires.stands, (c.in-Ok.ensures.read.stands, tt))).1 is

pub overflow_add-result : goal.overflow_add-result
overflow_add-result c =
    let (refusal, told, first) = refused_at _ c.in-Err-Refused.field-0 c.in-Err-Refused.position c.in-Err-Refused.error c.in-Err-Refused.field-0-is c.in-Err-Refused.ensures.refused.refused in
    let long = piece_long (source_under c.args.edition) c.args.sources.now c.args.from c.args.to c.requires.in_order c.requires.within in
    omega (arith, within_list _ c.in-Err-Refused.position refusal first, long, c.requires.in_order, c.ranges.to.fits)

pub returns-in-Err-Refused-clause-only : goal.returns-in-Err-Refused-clause-only
returns-in-Err-Refused-clause-only c reads =
    let f = source_under c.args.edition in
    let xs = c.args.sources.now in
    let pieces : List (List Source) = front f xs c.args.from c.args.to c.requires.in_order ∷ piece f xs c.args.from c.args.to c.requires.in_order ∷ behind f xs c.args.from c.args.to c.requires.in_order ∷ [] in
    let all : AllByRecursion Reads pieces = (c.law_cut.ensures.reads (map f xs) pieces (cut_whole f xs c.args.from c.args.to c.requires.in_order)).0 reads in
    cc (c.in-Err-Refused.field-0-is, c.in-Err-Refused.ensures.refused.only all.1.0)

pub returns-in-Err-Refused-clause-refused : goal.returns-in-Err-Refused-clause-refused
returns-in-Err-Refused-clause-refused c =
    let f = source_under c.args.edition in
    let xs = c.args.sources.now in
    let (refusal, told, first) = refused_at _ c.in-Err-Refused.field-0 c.in-Err-Refused.position c.in-Err-Refused.error c.in-Err-Refused.field-0-is c.in-Err-Refused.ensures.refused.refused in
    let pieces : List (List Source) = front f xs c.args.from c.args.to c.requires.in_order ∷ piece f xs c.args.from c.args.to c.requires.in_order ∷ behind f xs c.args.from c.args.to c.requires.in_order ∷ [] in
    let within : c.args.from ≤ length xs = omega (arith, c.requires.in_order, c.requires.within) in
    let among : IsFirstRefusedAmong pieces (c.args.from + c.in-Err-Refused.position) refusal = record {
      before = front f xs c.args.from c.args.to c.requires.in_order ∷ [];
      part = piece f xs c.args.from c.args.to c.requires.in_order;
      after = behind f xs c.args.from c.args.to c.requires.in_order ∷ [];
      within = c.in-Err-Refused.position;
      whole = refl;
      place = ap (λ n. n + c.in-Err-Refused.position) (front_long f xs c.args.from c.args.to c.requires.in_order within);
      read = ((c.requires.stands.0, c.requires.stands.1), tt);
      refused = first;
    } in
    (refusal, told, (c.law_cut.ensures.refused (map f xs) pieces (c.args.from + c.in-Err-Refused.position) refusal (cut_whole f xs c.args.from c.args.to c.requires.in_order)).1 among)
