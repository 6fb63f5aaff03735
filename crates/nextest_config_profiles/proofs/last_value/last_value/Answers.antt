use Rattle.std.proofs.Common.{◌≡◌, ◌∷◌, [], append-nil, inl, refl}
use Rattle.nextest_config_profiles.specs.Reach.{lent, said_below, words_of}
use Rattle.nextest_config_profiles.specs.Said.{said_at}
use Rattle.nextest_config_profiles.proofs.last_value.last_value.Goals as goal

pub returns : goal.returns
returns c =
    let here : said_below [] c.follow.result ≡ said_at (words_of c.args.path.now) (lent c.args.layers.defaults) = rw append-nil at (c.follow.ensures []) in
    rw (← here) (c.last_above.ensures (said_below [] c.follow.result ∷ []) refl (c.later-lowest.ensures [] refl (inl tt)))
