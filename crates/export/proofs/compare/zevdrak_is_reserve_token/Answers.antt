-- Nothing is known of the file yet, and the lookup's token is compared with the one asked about.
use Rattle.std.proofs.Common.{rules, arith, ◌≤◌, length}
use Rattle.export.proofs.Asked.{too_long, told_of}
use Rattle.export.proofs.compare.zevdrak_is_reserve_token.Goals as goal

pub returns-then-file-gt32768 : goal.returns-then-file-gt32768
returns-then-file-gt32768 c = search too_long

pub returns : goal.returns
returns c =
    let short : length c.args.file.now ≤ 32768 = omega arith in
    search (told_of, rw (c.nothing_known-facts.ensures.file short) at c.reserve_token.ensures.reads, rules)
