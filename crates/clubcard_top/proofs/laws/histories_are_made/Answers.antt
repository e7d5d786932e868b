use Rattle.clubcard_top.proofs.Made.{Layers, published, admitted, stored_law, told_law, asked_law, cert_law}
use Rattle.clubcard_top.proofs.Rehearsed.{rehearsed_law, done_law}
use Rattle.clubcard_top.proofs.laws.histories_are_made.Goals as goal

pub returns : goal.returns
returns c =
    let layers : Layers = record {
      publishing = record {
        one = c.publications_are_unique.ensures.outcome;
        front = c.histories_are_published.ensures.front;
        part = c.publications_are_unique.ensures.part;
        complete = c.histories_are_published.ensures.complete;
      };
      none = c.histories_are_published.ensures.none;
      admissible = c.histories_are_published.ensures.admissible;
      next = c.histories_are_published.ensures.history;
      ledger = c.histories_are_published.ensures.ledger;
      numbers = c.histories_are_published.ensures.numbers;
      place = c.histories_are_published.ensures.place;
      ledgers = record { value = c.ledgers_are_read_back.ensures.value; old_value = c.ledgers_are_read_back.ensures.old_value };
      chain = c.parts_are_chains.ensures.chain;
      few = c.parts_are_chains.ensures.few;
      texts = c.parts_are_chains.ensures.texts;
      truths = c.verdicts_are_the_truth.ensures;
      grown = c.chains_grow.ensures.only;
      store_read = c.stores_are_read_back.ensures.parts;
      part_read = c.a_text_is_read_back.ensures;
    } in
    record {
      published = λ command files h job d is p m. published layers command files h job d is p m;
      admitted = λ command files h job o is p a m. admitted layers command files h job o is p a m;
      stored = λ command files h ss s o is are p m. stored_law layers command files h ss s o is are p m;
      told = λ command files q h o is p m. told_law layers command files q h o is p m;
      asked = λ command files q h o is p m. asked_law layers command files q h o is p m;
      certified = λ command files q x ss h o is a m. cert_law layers command files q x ss h o is a m;
      rehearsed = λ command files r d is m. rehearsed_law layers files command r d is m;
      followed = λ command files queries jobs o is p m. done_law layers files command queries jobs o is p m;
      publishable = c.what_can_be_is_published.ensures;
    }
