-- What holds for a call's result holds for the result that is passed on.
use Rattle.std.proofs.Common.{Result, Ok, Err, OnOk}

pub on_ok : {A E P Q : Type 0} (r : Result A E) → (P → Q) → OnOk r P → OnOk r Q
on_ok (Ok x) f h = f h
on_ok (Err e) f h = h
