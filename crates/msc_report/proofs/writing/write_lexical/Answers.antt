use Rattle.msc_report.proofs.writing.write_lexical.Goals as goal

pub returns-in-TooLong : goal.returns-in-TooLong
returns-in-TooLong g c = rw c.in-TooLong.is c.write_line.ensures

pub returns-in-BadByte : goal.returns-in-BadByte
returns-in-BadByte g c = rw c.in-BadByte.is c.write_placed.ensures

pub returns-in-OpenNote : goal.returns-in-OpenNote
returns-in-OpenNote g c = rw c.in-OpenNote.is c.write_placed-in-OpenNote.ensures

pub returns-in-OpenText : goal.returns-in-OpenText
returns-in-OpenText g c = rw c.in-OpenText.is c.write_placed-in-OpenText.ensures

pub returns-in-LongName : goal.returns-in-LongName
returns-in-LongName g c = rw c.in-LongName.is c.write_placed-in-LongName.ensures

pub returns-in-Memory : goal.returns-in-Memory
returns-in-Memory g c = rw c.in-Memory.is c.write_line-in-Memory.ensures
