use Rattle.std.proofs.Common.{ltb, arith, rules}
use Rattle.std.proofs.lemmas.Bool.Decides.{nat_tests}
use Rattle.std.proofs.lemmas.List.Sorted.{IsPartitionPoint-from_clause, IsPartitionedBy-ltb}
use Rattle.opening.specs.declared.torrent.File.{File}
use Rattle.part_reports.proofs.report_lines.begun_before.Goals as goal

pub returns-clause-point : goal.returns-clause-point
returns-clause-point c = λ up.
    let xs = c.args.files.now in
    let point = IsPartitionPoint-from_clause (λ (f : File). ltb f.first_piece c.args.place) xs c.partition_point.result
    c.partition_point.ensures.partitioned (IsPartitionedBy-ltb (λ (f : File). f.first_piece) xs c.args.place up)
    (λ a r f' k. (search rules, search rules))
    in (
      λ k d from low. let h = point.0 k d from low in grind (arith, nat_tests, h),
      λ k d from low. let h = point.1 k d from low in grind (arith, nat_tests, h),
    )
