-- Arguments NAME=FILE, one after the other: the partition that one names, and what the files give after one more.
use Rattle.std.proofs.Common.{◌≡◌, ◌≢◌, ℕ, ◌<◌, ◌==◌, Bool, true, false, List, [], ◌∷◌, ◌++◌, length, take, set, get_or, replicate, Some, None, Result, Ok, Err, Vec, Global, Bor, refl, sym, ap, ◌∙◌, subst, arith, length-set, get_or-set_same, get_or-set_other, append-nil}
use Rattle.std.specs.Prelude.{IfSome}
use Rattle.std.specs.Result.{IsErr, IsErrAnd}
use Rattle.std.specs.List.{slice_get, list_any}
use Rattle.std.proofs.lemmas.Bool.{false≢true}
use Rattle.std.proofs.lemmas.Bool.Decides.{nat_tests}
use Rattle.std.proofs.lemmas.List.{length-replicate, get_or-replicate}
use Rattle.std.proofs.lemmas.List.Elements.{All-nil, All-push, filter-append}
use Rattle.std.proofs.lemmas.List.Folds.{list_any_none}
use Rattle.std.proofs.lemmas.List.Sums.{fails_before_first}
use Rattle.std.proofs.lemmas.Option.{slice_get_within, slice_get-get_or, slice_get_read, get_or_from_slice_get}
use Rattle.std.proofs.lemmas.Str.Pattern.{IsSplitOnceResult, split_once_first}
use Rattle.apex_types.specs.declared.call.Call.{Call}
use Rattle.apex_types.specs.declared.moment.Moment.{Moment}
use Rattle.apex_module.specs.Configuration.{Configuration}
use Rattle.apex_texts.specs.declared.fault.Fault.TheVariants as faults
use Rattle.apex_files.specs.declared.refusal.Refusal.{Refusal}
use Rattle.apex_files.specs.declared.refusal.Refusal.TheVariants.{Usage, Argument, Text, File, Output}
use Rattle.apex_files.specs.Reading.{FileBytes}
use Rattle.apex_files.specs.Arguments.{Arguments, AreGiven, IsGivenBy, NamesPartition, is_equals_sign, is_partition, path_in, partition_in, arguments_for}
use Rattle.apex_files.specs.Scripts.{AreScripts, AreArgumentsRefused, AreArgumentsRead, IsFirstRefused, IsScriptFile, if_first, new_partition_in}

-- an argument without an equals sign names no partition
pub uncut : (config : Configuration) (argument : List ℕ) → IsSplitOnceResult 61 argument None → partition_in config argument ≡ None
uncut config argument split =
    let end = split_once_first 61 argument None split (omega arith) in
    let lacks : list_any is_equals_sign argument ≡ false = list_any_none is_equals_sign argument (λ k d within. fails_before_first is_equals_sign argument k d (omega arith)) in
    rw lacks refl

-- ---- the arguments that name a partition, after one more

alone : Bool → Bor (List ℕ) → Arguments
alone true argument = argument ∷ []
alone false argument = []

module _ (config : Configuration) (done : Arguments) (argument : Bor (List ℕ)) (p : ℕ) (names : partition_in config argument.now ≡ Some p) where
  one_for : (q : ℕ) (b : Bool) → (p == q) ≡ b → arguments_for config q (argument ∷ []) ≡ alone b argument
  unfolding alone
  one_for q true is = rw (names, is) refl
  one_for q false is = rw (names, is) refl

  for_more : (q : ℕ) (b : Bool) → (p == q) ≡ b → arguments_for config q (done ++ argument ∷ []) ≡ arguments_for config q done ++ alone b argument
  for_more q b is = filter-append (λ other. is_partition q (partition_in config other.now)) done (argument ∷ []) ∙ ap (λ xs. arguments_for config q done ++ xs) (one_for q b is)

  pub for_own : arguments_for config p (done ++ argument ∷ []) ≡ arguments_for config p done ++ argument ∷ []
  unfolding alone
  for_own = for_more p true (grind (arith, nat_tests))

  pub for_other : (q : ℕ) → p ≢ q → arguments_for config q (done ++ argument ∷ []) ≡ arguments_for config q done
  unfolding alone
  for_other q apart = for_more q false (grind (arith, nat_tests)) ∙ append-nil (arguments_for config q done)

-- ---- which partitions are named

-- whether there is an argument
abbrev pub has_argument : Arguments → Bool
has_argument [] = false
has_argument (argument ∷ more) = true

-- the flags say which partitions the arguments name
abbrev pub AreFlags : Configuration → Arguments → List Bool → Type 0
AreFlags config done named = (p : ℕ) → p < length named → get_or named p false ≡ has_argument (arguments_for config p done)

has_last : (xs : Arguments) (x : Bor (List ℕ)) → has_argument (xs ++ x ∷ []) ≡ true
has_last [] x = refl
has_last (y ∷ xs) x = refl

has_none : (xs : Arguments) → has_argument xs ≡ false → xs ≡ []
has_none [] none = refl
has_none (x ∷ xs) none = absurd (false≢true (sym none))

-- a flag that was read
pub flag_read : (named : List Bool) (p : ℕ) (flag is : Bool) → p < length named → flag ≡ get_or named p flag → flag ≡ is → get_or named p false ≡ is
flag_read named p flag is within read test = get_or_from_slice_get named p flag false (slice_get_read named (length named) p flag refl within read) ∙ test

pub flags_more : (config : Configuration) (done : Arguments) (argument : Bor (List ℕ)) (p : ℕ) (named : List Bool) → partition_in config argument.now ≡ Some p → p < length named → AreFlags config done named
    → AreFlags config (done ++ argument ∷ []) (set named p true)
flags_more config done argument p named names within flags q inside = by_test (p == q) refl
  where
    by_test : (b : Bool) → (p == q) ≡ b → get_or (set named p true) q false ≡ has_argument (arguments_for config q (done ++ argument ∷ []))
    by_test true is =
        let same : p ≡ q = grind (arith, nat_tests) in
        subst (λ (r : ℕ). get_or (set named p true) r false ≡ has_argument (arguments_for config r (done ++ argument ∷ []))) same
        (get_or-set_same named p true false within ∙ sym (ap has_argument (for_own config done argument p names) ∙ has_last (arguments_for config p done) argument))
    by_test false is =
        let apart : p ≢ q = grind (arith, nat_tests) in
        let before : q < length named = omega (arith, length-set named p true) in
        get_or-set_other named p q true false (λ h. apart (sym h)) ∙ (flags q before ∙ sym (ap has_argument (for_other config done argument p names q apart)))

-- ---- what the files give

module _ {X : Type 0} (Says : ℕ → List ℕ → X → Type 0) (nothing : X) (files : FileBytes) (config : Configuration) where
  pub given_none : (n : ℕ) → n ≡ length config.partitions → AreGiven Says nothing files config [] (replicate n nothing)
  given_none n all = record {
    count = length-replicate {A = X} n nothing ∙ all;
    named = All-nil (NamesPartition config);
    each = λ p given here.
        let within = slice_get_within (replicate n nothing) p given here in
        sym (get_or_from_slice_get (replicate n nothing) p given nothing here) ∙ get_or-replicate n p nothing nothing (omega (arith, length-replicate {A = X} n nothing));
  }

  pub given_more : (done : Arguments) (argument : Bor (List ℕ)) (p : ℕ) (all : List X) (given : X)
      → partition_in config argument.now ≡ Some p → p < length all → has_argument (arguments_for config p done) ≡ false → IfSome (files (path_in argument.now)) (λ bytes. Says p bytes given)
      → AreGiven Says nothing files config done all → AreGiven Says nothing files config (done ++ argument ∷ []) (set all p given)
  given_more done argument p all given names within first read known = record {
    count = length-set all p given ∙ known.count;
    named = All-push (NamesPartition config) done argument known.named (p, names);
    each = λ q other here. by_test q other here (p == q) refl;
  }
    where
      own : arguments_for config p (done ++ argument ∷ []) ≡ argument ∷ []
      own = for_own config done argument p names ∙ ap (λ (xs : Arguments). xs ++ argument ∷ []) (has_none (arguments_for config p done) first)

      for_p : (other : X) → slice_get (set all p given) p ≡ Some other → IsGivenBy Says nothing files p (arguments_for config p (done ++ argument ∷ [])) other
      for_p other here =
          let same : given ≡ other = sym (get_or-set_same all p given nothing within) ∙ get_or_from_slice_get (set all p given) p other nothing here in
          subst (λ (xs : Arguments). IsGivenBy Says nothing files p xs other) (sym own) (subst (λ (x : X). IfSome (files (path_in argument.now)) (λ bytes. Says p bytes x)) same read)

      by_test : (q : ℕ) (other : X) → slice_get (set all p given) q ≡ Some other → (b : Bool) → (p == q) ≡ b → IsGivenBy Says nothing files q (arguments_for config q (done ++ argument ∷ [])) other
      by_test q other here true is =
          let same : p ≡ q = grind (arith, nat_tests) in
          subst (λ (r : ℕ). slice_get (set all p given) r ≡ Some other → IsGivenBy Says nothing files r (arguments_for config r (done ++ argument ∷ [])) other) same (for_p other) here
      by_test q other here false is =
          let apart : p ≢ q = grind (arith, nat_tests) in
          let place = slice_get_within (set all p given) q other here in
          let before : q < length all = omega (arith, length-set all p given) in
          let kept : get_or all q nothing ≡ other = sym (get_or-set_other all p q given nothing (λ h. apart (sym h))) ∙ get_or_from_slice_get (set all p given) q other nothing here in
          let here_before : slice_get all q ≡ Some other = slice_get-get_or all q nothing before ∙ ap Some kept in
          subst (λ (xs : Arguments). IsGivenBy Says nothing files q xs other) (sym (for_other config done argument p names q apart)) (known.each q other here_before)

-- ---- refusals

pub first_refused : (files : FileBytes) (config : Configuration) (arguments : Arguments) (refusal : Refusal) → IsFirstRefused files config arguments refusal → AreArgumentsRefused files config arguments refusal
first_refused files config arguments Usage first = first
first_refused files config arguments (Argument word) first = first
first_refused files config arguments (File path obstacle) first = first
first_refused files config arguments Output first = first
first_refused files config arguments (Text faults.Memory) first = tt
first_refused files config arguments (Text (faults.Config fault)) first = first
first_refused files config arguments (Text (faults.Trace fault)) first = first
first_refused files config arguments (Text (faults.Script name fault)) first = first
first_refused files config arguments (Text (faults.Held name n)) first = first
first_refused files config arguments (Text (faults.Run fault)) first = first
first_refused files config arguments (Text faults.Gone) first = first

module _ (config : Configuration) (before : Arguments) (argument : List ℕ) where
  pub not_new : partition_in config argument ≡ None → new_partition_in config before argument ≡ None
  not_new none = rw none refl

  named_by : (xs : Arguments) (p : ℕ) → has_argument xs ≡ true → if_first xs p ≡ None
  named_by [] p has = absurd (false≢true has)
  named_by (x ∷ xs) p has = refl

  pub named_before : (p : ℕ) → partition_in config argument ≡ Some p → has_argument (arguments_for config p before) ≡ true → new_partition_in config before argument ≡ None
  named_before p names has = rw names (named_by (arguments_for config p before) p has)

  pub is_new : (p : ℕ) → partition_in config argument ≡ Some p → has_argument (arguments_for config p before) ≡ false → new_partition_in config before argument ≡ Some p
  is_new p names none = rw names (ap (λ (xs : Arguments). if_first xs p) (has_none (arguments_for config p before) none))

-- an argument is refused itself
pub refused_itself : (files : FileBytes) (config : Configuration) (arguments : Arguments) (place : ℕ) (argument : Bor (List ℕ)) (scripts : List (List (Moment × Call)))
    → slice_get arguments place ≡ Some argument → AreScripts files config (take place arguments) scripts → new_partition_in config (take place arguments) argument.now ≡ None
    → IsFirstRefused files config arguments (Argument argument)
refused_itself files config arguments place argument scripts here before none = record {
  place = place;
  argument = argument;
  is_at = here;
  scripts = scripts;
  before = before;
  refused = rw none refl;
}

-- the file of an argument is refused, or the text of it
pub refused_file : (files : FileBytes) (config : Configuration) (arguments : Arguments) (place : ℕ) (argument : Bor (List ℕ)) (scripts : List (List (Moment × Call))) (p : ℕ) (refusal : Refusal)
    → slice_get arguments place ≡ Some argument → AreScripts files config (take place arguments) scripts → new_partition_in config (take place arguments) argument.now ≡ Some p
    → IsScriptFile files config p (path_in argument.now) (Err refusal) → AreArgumentsRefused files config arguments refusal
refused_file files config arguments place argument scripts p refusal here before new file = first_refused files config arguments refusal (record {
  place = place;
  argument = argument;
  is_at = here;
  scripts = scripts;
  before = before;
  refused = rw new file;
})

pub given_refusal : (files : FileBytes) (config : Configuration) (arguments : Arguments) (answer : Result (Vec (List (Moment × Call)) Global) Refusal) (refusal : Refusal)
    → IsErr answer × IsErrAnd answer (λ given. given ≡ refusal) → AreArgumentsRefused files config arguments refusal → AreArgumentsRead files config arguments answer
given_refusal files config arguments (Ok scripts) refusal given refused = absurd (false≢true given.0)
given_refusal files config arguments (Err other) refusal given refused = subst (λ (r : Refusal). AreArgumentsRefused files config arguments r) (sym given.1) refused
