-- The laws of the join of configurations, and of what is read of one source.
use Rattle.std.proofs.Common.{◌≡◌, refl, List, [], ◌∷◌, ◌++◌, Option, Some, None, sym, inl, inr, ap, ap₂, subst, ◌∙◌}
use mathlib.Core.Logic.Iff as iff
use Rattle.semver.specs.Parse.{Parts}
use Rattle.nextest_config.specs.Merge.{IsMonoid, IsReadingOne}
use Rattle.nextest_config.specs.NextestVersion.Error.{Refusal}
use Rattle.nextest_config.specs.NextestVersion.ErrorKind.{Wrong}
use Rattle.nextest_config.specs.NextestVersion.ExperimentalConfig.{Experimental, join_features, no_features_seen}
use Rattle.nextest_config.specs.NextestVersion.ExperimentalConfigLaws.{features_join}
use Rattle.nextest_config.specs.NextestVersion.ExperimentalLaws.{features_in_one_order}
use Rattle.nextest_config.specs.NextestVersion.KeptVersions.{join_roles, Kept, no_roles, role_from, Roles}
use Rattle.nextest_config.specs.NextestVersion.KeptVersionsLaws.{roles_join}
use Rattle.nextest_config.specs.NextestVersion.Parts.{parts_join}
use Rattle.nextest_config.specs.NextestVersion.Source.{SourcePlace, Source}
use Rattle.nextest_config.specs.NextestVersion.VersionOnly.{Configuration, IsErrorOf, IsRead, IsReadAs, IsRefused, join_configurations, neutral_seen, seen_configuration, SeenConfiguration, SourceAsk, StandsForAsks, StandsForOne, StandsIn}
use Rattle.nextest_config.specs.NextestVersion.VersionOnlyDeserialize.{Ask, IsWrong}
use Rattle.nextest_config.specs.NextestVersion.VersionOnlyDeserializeLaws.{one_wrong, ask_or_error, text_asks_once, text_not_wrong}
use Rattle.nextest_config_values.specs.Once.{HasMeaningOrFault}

pub configurations_join : IsMonoid join_configurations neutral_seen
configurations_join = parts_join (λ (seen : SeenConfiguration). (seen.roles, seen.experimental))
    (λ seen. record { roles = seen.0; experimental = seen.1 }) join_roles join_features no_roles
    no_features_seen (λ seen. refl) (λ seen. refl) roles_join features_join

-- ---- one source

pub read_once : (source : Source) (a b : SourceAsk) → IsReadAs source a → IsReadAs source b → a ≡ b
read_once source a b h k =
    ap₂ (λ (place : SourcePlace) (ask : Ask). record { place = place; ask = ask })
    (h.place ∙ sym k.place)
    (text_asks_once source.edition source.place.kind source.contents a.ask b.ask h.read k.read)

pub one_error : (source : Source) (a b : Refusal) → IsRefused source a → IsRefused source b → a ≡ b
one_error source a b h k =
    ap₂ (λ (place : SourcePlace) (wrong : Wrong). record { place = place; wrong = wrong })
    (h.named ∙ sym k.named)
    (one_wrong source.edition source.place.kind source.contents a.wrong b.wrong h.wrong k.wrong)

pub read_not_refused : (source : Source) (ask : Ask) (refusal : Refusal) → IsRead source ask
    → IsRefused source refusal → ⊥
read_not_refused source ask refusal read refused =
    text_not_wrong source.edition source.place.kind source.contents ask refusal.wrong read
    refused.wrong

as_read_or_refused : (source : Source)
    → HasMeaningOrFault (IsRead source) (IsWrong source.edition source.place.kind source.contents)
    → HasMeaningOrFault (IsReadAs source) (IsRefused source)
as_read_or_refused source (inl (ask, read)) =
    inl (record { place = source.place; ask = ask }, record { place = refl; read = read })
as_read_or_refused source (inr (wrong, broken)) =
    inr (record { place = source.place; wrong = wrong }, record { named = refl; wrong = broken })

-- each source is in its grammar, or is refused
pub read_or_refused : (source : Source) → HasMeaningOrFault (IsReadAs source) (IsRefused source)
read_or_refused source =
    as_read_or_refused source (ask_or_error source.edition source.place.kind source.contents)

-- a list of one has its one element in the middle
only_one : {X : Type 0} (a : X) (before : List X) (x : X) (after : List X)
    → (a ∷ []) ≡ before ++ (x ∷ after) → a ≡ x
only_one a [] x after whole = cc whole
only_one a (y ∷ []) x after whole = cc whole
only_one a (y ∷ z ∷ before) x after whole = cc whole

-- what stands in a role for one ask is what it asks, from its place
role_alone : (role : Ask → Option Parts) (a : SourceAsk) (kept : Option Kept)
    → StandsIn role (a ∷ []) kept → role_from a.place (role a.ask) ≡ kept
role_alone role a None none = ap (role_from a.place) none.0
role_alone role a (Some kept) h =
    let here : a ≡ h.last = only_one a h.before h.last h.after h.whole in
    ap (λ (b : SourceAsk). role_from b.place (role b.ask)) here ∙ ap₂ role_from h.place h.version

pub alone_once : (a : SourceAsk) (c d : Configuration) → StandsForAsks (a ∷ []) c
    → StandsForAsks (a ∷ []) d → c ≡ d
alone_once a c d h k =
    let required = sym (role_alone (λ ask. ask.versions.required) a c.roles.required h.required)
    ∙ role_alone (λ ask. ask.versions.required) a d.roles.required k.required in
    let recommended = sym
    (role_alone (λ ask. ask.versions.recommended) a c.roles.recommended h.recommended)
    ∙ role_alone (λ ask. ask.versions.recommended) a d.roles.recommended k.recommended in
    let known = features_in_one_order c.experimental.known d.experimental.known h.known.in_order
    k.known.in_order (λ f. iff.trans (h.known.of_some f) (iff.symm (k.known.of_some f))) in
    let roles : c.roles ≡ d.roles =
    ap₂ (λ (r m : Option Kept). record { required = r; recommended = m }) required recommended
    in
    let experimental : c.experimental ≡ d.experimental =
    λ i. record {
      known = known i;
      unknown = (h.unknown ∙ sym k.unknown) i;
      arrays = (h.arrays ∙ sym k.arrays) i;
    } in
    ap₂ (λ (r : Roles) (e : Experimental). record { roles = r; experimental = e }) roles
    experimental

pub one_alone : (source : Source) (c d : Configuration) → StandsForOne source c
    → StandsForOne source d → c ≡ d
one_alone source c d ([], read, stands) k = absurd read
one_alone source c d (a ∷ b ∷ asked, read, stands) k = absurd read.1
one_alone source c d (a ∷ [], read, stands) ([], more_read, more) = absurd more_read
one_alone source c d (a ∷ [], read, stands) (x ∷ y ∷ others, more_read, more) = absurd more_read.1
one_alone source c d (a ∷ [], read, stands) (x ∷ [], more_read, more) =
    alone_once a c d stands
    (subst (λ (b : SourceAsk). StandsForAsks (b ∷ []) d)
    (read_once source x a more_read.0 read.0) more)

pub one_told : (source : Source) (a b : Option Refusal) → IsErrorOf source a → IsErrorOf source b
    → a ≡ b
one_told source None b h k = absurd h
one_told source (Some a) None h k = absurd k
one_told source (Some a) (Some b) h k = ap Some (one_error source a b h k)

pub none_alone : (source : Source) (c : Configuration) (told : Option Refusal)
    → StandsForOne source c → IsErrorOf source told → ⊥
none_alone source c None stands h = h
none_alone source c (Some refusal) ([], read, stands) h = read
none_alone source c (Some refusal) (a ∷ asked, read, stands) h =
    read_not_refused source a.ask refusal read.0.read h

-- one configuration stands for a source, or it has one error
pub one_read : {X Y : Type 0} (source_of : X → Source) (configuration_of : Y → Configuration)
    → IsReadingOne (λ y. seen_configuration (configuration_of y))
    (λ x y. StandsForOne (source_of x) (configuration_of y))
    (λ x told. IsErrorOf (source_of x) told)
one_read source_of configuration_of = record {
  one_piece = λ x a b h k.
      ap seen_configuration (one_alone (source_of x) (configuration_of a) (configuration_of b) h k);
  one_error = λ x a b h k. one_told (source_of x) a b h k;
  never_both = λ x a told h k. none_alone (source_of x) (configuration_of a) told h k;
}
