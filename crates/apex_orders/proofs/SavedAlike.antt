-- What was saved with the same bytes was saved at one point.
use Rattle.apex_orders.proofs.Common.{sym, ◌∙◌, Configuration, History, port_of, IsSamePoint}
use Rattle.apex_ports.specs.SameSaved.{IsSameSaved}
use Rattle.apex_orders.proofs.StateSteps.{shown_of, shown_is}

pub same_point : (config : Configuration) (h other : History) → IsSameSaved config h other → IsSamePoint config h other
same_point config h other same = record {
  calls = λ p within. (same.partitions p within).calls;
  counts = λ c within. let one = same.channels c within in record { accepted = one.accepted; received = one.received; cleared = one.cleared };
  state = record {
    partitions = λ p within.
        let one = same.partitions p within in
        record {
          mode = one.mode;
          ports = record {
            created = λ id known. one.created id;
            last = λ id known.
                shown_is config h p id ∙ ((λ i. shown_of (one.created id i) (port_of config p id) (one.last id i)) ∙ sym (shown_is config other p id));
          };
        };
    channels = λ c within. let one = same.channels c within in record { sample = one.sample; waiting = one.waiting };
  };
}
