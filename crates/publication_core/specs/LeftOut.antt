-- What a rebase leaves out, as a cut.
use Rattle.place_core.specs.Cuts.{Cut, without, at_place}
use Rattle.publication_core.specs.declared.left_out.LeftOut.{LeftOut}
use Rattle.publication_core.specs.declared.left_out.LeftOut.TheVariants.{Issuers, OtherPlaces}

-- what is left of a ledger
abbrev pub cut_of : LeftOut → Cut
cut_of (Issuers keys) = without keys
cut_of (OtherPlaces by count p) = at_place by count p
