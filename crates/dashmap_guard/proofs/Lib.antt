mod Absent
