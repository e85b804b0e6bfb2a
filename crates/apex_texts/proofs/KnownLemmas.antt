-- Each request that is read has a partition of the configuration.
use Rattle.apex_texts.proofs.Common.{◌≡◌, ℕ, ◌+◌, ◌<◌, List, [], ◌∷◌, length, Option, Some, None, Result, Ok, Err, refl, sym, subst, arith, IfOk, bytes_eq, lines, Configuration, partition_named, ◌>>=◌, or_fault, word_at, moment_of, call_of, FaultyLine, line_words, item_of_words, item_of_line, before, items_from, HavePartitions, partition_of, request_at, trace_of, IsTraceRead}
use Rattle.std.specs.Global.{Vec}
use Rattle.std.proofs.lemmas.List.Elements.{All-nil, All-cons}
use Rattle.apex_ports.specs.declared.history.Request.{Request}
use Rattle.apex_texts.specs.declared.line_fault.LineFault.{LineFault}
use Rattle.apex_texts.specs.declared.line_fault.LineFault.TheVariants as faults
use Rattle.apex_texts.specs.declared.fault.TraceFault.{TraceFault}
use Rattle.apex_texts.proofs.TextLemmas.{position_found}

-- a fact about what was read, if anything was
abbrev OfRead : {A E : Type 0} → (A → Type 0) → Result A E → Type 0
OfRead P (Ok x) = P x
OfRead P (Err e) = Unit {0}

of_step : {A B E : Type 0} (P : B → Type 0) (read : Result A E) (f : A → Result B E) → ((x : A) → read ≡ Ok x → OfRead P (f x)) → OfRead P (read >>= f)
of_step P (Ok x) f h = h x refl
of_step P (Err e) f h = tt

of_ok : {A E : Type 0} (P : A → Type 0) (read : Result A E) (x : A) → OfRead P read → read ≡ Ok x → P x
of_ok P (Ok y) x h is =
    let same : y ≡ x = cc in
    subst P same h
of_ok P (Err e) x h is = absurd cc

abbrev IsPartition : Configuration → ℕ → Type 0
IsPartition config p = p < length config.partitions

abbrev IsKnown : Configuration → Request → Type 0
IsKnown config request = request.partition < length config.partitions

of_option : (config : Configuration) (fault : LineFault) (o : Option ℕ) → ((p : ℕ) → o ≡ Some p → IsPartition config p) → OfRead (IsPartition config) (or_fault fault o)
of_option config fault None h = tt
of_option config fault (Some p) h = h p refl

named-known : (config : Configuration) (name : List ℕ) (p : ℕ) → partition_named config name ≡ Some p → IsPartition config p
named-known config name p is = omega (arith, position_found (λ partition. bytes_eq partition.name name) config.partitions p is)

partition-known : (config : Configuration) (word : List ℕ) → OfRead (IsPartition config) (partition_of config word)
partition-known config word = of_option config faults.Partition (partition_named config word) (named-known config word)

request-known : (config : Configuration) (moment : List ℕ) (words : List (List ℕ)) → OfRead (IsKnown config) (request_at config moment words)
unfolding request_at
request-known config moment words =
    of_step (IsKnown config) (word_at words) _ (λ partition _.
    of_step (IsKnown config) (word_at partition.1) _ (λ call _.
    of_step (IsKnown config) (moment_of moment) _ (λ at _.
    of_step (IsKnown config) (partition_of config partition.0) _ (λ p is.
    of_step (IsKnown config) (call_of call.0 call.1) _ (λ asked _.
    of_ok (IsPartition config) (partition_of config partition.0) p (partition-known config partition.0) is)))))

abbrev IsKnownIfSome : Configuration → Option Request → Type 0
IsKnownIfSome config None = Unit {0}
IsKnownIfSome config (Some request) = IsKnown config request

words-known : (config : Configuration) (words : Option (List ℕ × List (List ℕ))) → OfRead (IsKnownIfSome config) (item_of_words (request_at config) words)
words-known config None = tt
words-known config (Some words) =
    of_step (IsKnownIfSome config) (request_at config words.0 words.1) (λ request. Ok (Some request)) (λ request is. of_ok (IsKnown config) (request_at config words.0 words.1) request (request-known config words.0 words.1) is)

line-known : (config : Configuration) (line : List ℕ) → OfRead (IsKnownIfSome config) (item_of_line (request_at config) line)
unfolding item_of_line
line-known config line = of_step (IsKnownIfSome config) (line_words line) (item_of_words (request_at config)) (λ words _. words-known config words)

before-known : (config : Configuration) (number : ℕ) (read : Result (Option Request) LineFault) (after : Result (List Request) FaultyLine)
    → OfRead (IsKnownIfSome config) read → OfRead (HavePartitions config) after → OfRead (HavePartitions config) (before number read after)
before-known config number (Err fault) after here rest = tt
before-known config number (Ok None) after here rest = rest
before-known config number (Ok (Some request)) (Ok requests) here rest = All-cons (IsKnown config) request requests here rest
before-known config number (Ok (Some request)) (Err faulty) here rest = tt

lines-known : (config : Configuration) (number : ℕ) (lines : List (List ℕ)) → OfRead (HavePartitions config) (items_from (request_at config) number lines)
unfolding items_from
lines-known config number [] = All-nil (IsKnown config)
lines-known config number (line ∷ rest) =
    before-known config number (item_of_line (request_at config) line) (items_from (request_at config) (number + 1) rest) (line-known config line) (lines-known config (number + 1) rest)

-- a partition that is read is the configuration's
pub index-known : (config : Configuration) (word : List ℕ) (p : ℕ) → Ok p ≡ partition_of config word → p < length config.partitions
index-known config word p is = of_ok (IsPartition config) (partition_of config word) p (partition-known config word) (sym is)

-- each request that a reader of a trace returned has a partition
pub trace-known : (config : Configuration) (text : List ℕ) (answer : Result (Vec Request) TraceFault) → IsTraceRead answer (trace_of config text) → IfOk answer (λ requests. HavePartitions config requests.items)
trace-known config text (Ok requests) read = of_ok (HavePartitions config) (trace_of config text) requests.items (lines-known config 1 (lines text)) read
trace-known config text (Err fault) read = tt
