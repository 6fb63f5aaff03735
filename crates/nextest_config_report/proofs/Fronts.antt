-- Texts that are written piece by piece, as far as the writer takes them.
use Rattle.std.proofs.Common.{◌≡◌, ℕ, List, ◌++◌, Option, take, drop, take-append-drop, append_assoc}
use Rattle.std.specs.Io.KnownBytes.{Appends, Keeps}
use Rattle.std.proofs.KnownBytes.{Appends-kept, Appends-trans}
use Rattle.nextest_config_report.specs.Streams.{AddsFront, AddsUpTo}

-- the writer took the first n bytes of the rest
pub more_added : (old mid new : Option (List ℕ)) (text rest : List ℕ) (n : ℕ) → AddsUpTo old mid text rest → Appends mid new (take n rest) → AddsUpTo old new text (drop n rest)
more_added old mid new text rest n h taken =
    let cut : text ≡ (h.front ++ take n rest) ++ drop n rest = cc (h.cut, take-append-drop n rest, append_assoc h.front (take n rest) (drop n rest)) in
    record { front = h.front ++ take n rest; cut = cut; added = Appends-trans old mid new h.front (take n rest) h.added taken }

-- the writer took nothing
pub still_added : (old mid new : Option (List ℕ)) (text rest : List ℕ) → AddsUpTo old mid text rest → Keeps mid new → AddsUpTo old new text rest
still_added old mid new text rest h kept = record { front = h.front; cut = h.cut; added = Appends-kept old mid new h.front h.added kept }

pub then_front : (old mid new : Option (List ℕ)) (text more : List ℕ) → Appends old mid text → AddsFront mid new more → AddsFront old new (text ++ more)
then_front old mid new text more whole (rest, h) =
    (rest, record { front = text ++ h.front; cut = cc (h.cut, append_assoc text h.front rest); added = Appends-trans old mid new text h.front whole h.added })

pub front_of_both : (old new : Option (List ℕ)) (text more : List ℕ) → AddsFront old new text → AddsFront old new (text ++ more)
front_of_both old new text more (rest, h) = (rest ++ more, record { front = h.front; cut = cc (h.cut, append_assoc h.front rest more); added = h.added })
