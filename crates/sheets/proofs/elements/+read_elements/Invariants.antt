use Rattle.sheets.proofs.elements.+read_elements.Given as goal

abbrev pub decreases-read_elements : goal.decreases-read_elements
decreases-read_elements l = l.count
