use Rattle.clubcard_top.proofs.BasesMade.{BaseLayers, Keeping, Leaving, rebased_law, rebasable_law, kept_law, base_asked, left_out_law}
use Rattle.universe_core.specs.Formats.{in_format}
use Rattle.publication_core.specs.Formats.{current}
use Rattle.clubcard_top.proofs.laws.bases_are_made.Goals as goal

pub returns : goal.returns
returns c =
    let layers : BaseLayers = record {
      ledgers = record { value = c.ledgers_are_read_back.ensures.value; old_value = c.ledgers_are_read_back.ensures.old_value };
      one = c.one_thing_comes_of_a_rebase.ensures.outcome;
      rebasable = c.bases_are_published.ensures.rebasable;
      begins = c.bases_are_published.ensures.history;
      ledger = c.bases_are_published.ensures.ledger;
      numbers = c.bases_are_published.ensures.numbers;
      head = c.releases_are_cut.ensures.head;
      complete = c.bases_are_published.ensures.complete;
    } in
    let keeping : Keeping = record {
      sightings_kept = c.base_stands_for_its_history.ensures.kept_sightings;
      listing_kept = c.base_stands_for_its_history.ensures.kept_listing;
      sightings_left = c.releases_are_cut.ensures.sightings;
      listing_left = c.releases_are_cut.ensures.listing;
      left_kept = c.releases_are_cut.ensures.kept;
      asked = c.histories_are_made.ensures.asked;
    } in
    let leaving : Leaving = record {
      unenrolled = c.issuers_that_are_left_out_come_back.ensures.unenrolled;
      told = c.histories_are_made.ensures.told;
    } in
    record {
      rebased = λ command files r h d is p m. rebased_law layers command files r h d is p m;
      rebasable = λ command files r h o is p may m. rebasable_law layers command files r h o is p may m;
      kept = λ h moment cut s q kept other. kept_law keeping h moment cut s q kept other;
      asked = λ command files q h moment cut s o is a m. base_asked keeping command files q h moment cut s o is a m;
      left_out = λ command files q h o is a m. left_out_law leaving command files q h o is a m;
      comes_back = λ h job s e is left b.
          c.issuers_that_are_left_out_come_back.ensures.come_back h (in_format current job) s e is left b.entry b.covered b.enrolled;
      publishable = c.one_thing_comes_of_a_rebase.ensures.complete;
    }
