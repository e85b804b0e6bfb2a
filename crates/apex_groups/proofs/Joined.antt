-- Orders of the logs of partitions that share no channel with the others.
use Rattle.apex_groups.proofs.Common.{◌≡◌, ℕ, Bool, true, false, refl, sym, ◌∙◌, Configuration, entries_of, IsClosed, entries_inside, independent, Logs, log_in, HasNoOrder, IsPart}
use Rattle.apex_groups.proofs.Exchanged.{here_inside, none_outside}
use Rattle.apex_groups.proofs.Inside.{entries_stay, entries_go}

-- an order of all entries contains one of the entries inside
pub no_order : (config : Configuration) (inside : ℕ → Bool) → IsClosed config inside → (logs part : Logs) → IsPart inside logs part → HasNoOrder config part → HasNoOrder config logs
no_order config inside closed logs part is none history order = none (entries_inside inside history) (record {
  lawful = (independent config inside closed history order.lawful).alone;
  entries = λ p. by_test p (inside p) refl;
})
  where
    by_test : (p : ℕ) (b : Bool) → inside p ≡ b → entries_of p (entries_inside inside history) ≡ log_in part p
    by_test p true here = entries_stay inside p here history ∙ (order.entries p ∙ sym (here_inside inside logs part is p here))
    by_test p false out = entries_go inside p out history ∙ sym (none_outside inside logs part is p out)
