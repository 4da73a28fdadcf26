use Rattle.std.proofs.Common.{◌++◌, ◌∷◌, None, arith}
use Rattle.std.proofs.lemmas.Option.{none-some, same_Some}
use Rattle.part_reports.proofs.Heads.{first_read, hash_words, numbers_read, part_read, second_read, tail_of}
use Rattle.part_reports.proofs.head.guess.Goals as goal

pub returns : goal.returns
returns c = λ kind p n hash of head.
    let read = numbers_read kind c.args.text.now c.in_ok-number.number c.in_ok-number.behind.now c.in_ok-count.count c.in_ok-count.end.now
    c.in_ok-number.ensures c.in_ok-count.ensures p n hash head in
    let digest = same_Some c.in_ok-hash.hash hash (c.in_ok-hash.ensures 32 hash (tail_of kind ++ 10 ∷ head.more) of read.2) in
    (omega (arith, read.0, c.in_ok-part.ensures.1), read.1, digest)

pub returns-in_err-number : goal.returns-in_err-number
returns-in_err-number c = rw c.from_residual.ensures (λ kind p n hash of head.
    none-some _ (first_read kind c.args.text.now None c.in_err-number.ensures p n hash head))

pub returns-in_err-count : goal.returns-in_err-count
returns-in_err-count c = rw c.from_residual-in_err-count.ensures (λ kind p n hash of head.
    let one = part_read kind c.args.text.now c.in_ok-number.number c.in_ok-number.behind.now c.in_ok-number.ensures p n hash head in
    none-some _ (second_read c.in_ok-number.behind.now (hash_words kind hash) head.more None n head.small c.in_err-count.ensures one.1))

pub returns-in_err-part : goal.returns-in_err-part
returns-in_err-part c = rw c.from_residual-in_err-part.ensures (λ kind p n hash of head.
    let one = part_read kind c.args.text.now c.in_ok-number.number c.in_ok-number.behind.now c.in_ok-number.ensures p n hash head in
    omega (arith, one.0, c.in_err-part.ensures))

pub returns-in_err-hash : goal.returns-in_err-hash
returns-in_err-hash c = rw c.from_residual-in_err-hash.ensures (λ kind p n hash of head.
    let read = numbers_read kind c.args.text.now c.in_ok-number.number c.in_ok-number.behind.now c.in_ok-count.count c.in_ok-count.end.now
    c.in_ok-number.ensures c.in_ok-count.ensures p n hash head in
    none-some hash (c.in_err-hash.ensures 32 hash (tail_of kind ++ 10 ∷ head.more) of read.2))
